use Rattle.std.proofs.Common.{refl, string_bytes}
use Rattle.std.proofs.lemmas.Result.{err_from_is_err_and}
use Rattle.rec_store.proofs.PartRefusals.{refuses_next}
use Rattle.rec_portable.proofs.RewrittenStores.{texts_same}
use Rattle.rec_portable.proofs.upgrading.metadata.MetadataTexts.read.Goals as goal
use Rattle.rec_portable.specs.declared.upgrading.metadata.MetadataTexts.{MetadataTexts}
use Rattle.rec_portable.specs.Rewriting.{MetadataParts}

pub returns-in_err-build_scope : goal.returns-in_err-build_scope
returns-in_err-build_scope c =
    let p = err_from_is_err_and c.from_residual.result c.from_residual.ensures.1 in
    rw (p.1, p.2) (refuses_next _ _ _ c.in_err-build_scope.ensures)

pub returns-in_err-rerun_info : goal.returns-in_err-rerun_info
returns-in_err-rerun_info c =
    let p = err_from_is_err_and c.from_residual-in_err-rerun_info.result
    c.from_residual-in_err-rerun_info.ensures.1 in
    rw (p.1, p.2, c.in_ok-build_scope.ensures.1) (refuses_next _ _ _ c.in_err-rerun_info.ensures)

pub returns-in_err-test_list : goal.returns-in_err-test_list
returns-in_err-test_list c =
    let p = err_from_is_err_and c.from_residual-in_err-test_list.result
    c.from_residual-in_err-test_list.ensures.1 in
    rw (p.1, p.2, c.in_ok-build_scope.ensures.1, c.in_ok-rerun_info.ensures.1)
    (refuses_next _ _ _ c.in_err-test_list.ensures)

pub returns-in_err-cargo_metadata : goal.returns-in_err-cargo_metadata
returns-in_err-cargo_metadata c =
    let p = err_from_is_err_and c.from_residual-in_err-cargo_metadata.result
    c.from_residual-in_err-cargo_metadata.ensures.1 in
    rw (
      p.1,
      p.2,
      c.in_ok-build_scope.ensures.1,
      c.in_ok-rerun_info.ensures.1,
      c.in_ok-test_list.ensures.1,
    ) (refuses_next _ _ _ c.in_err-cargo_metadata.ensures)

pub returns-in_err-record_opts : goal.returns-in_err-record_opts
returns-in_err-record_opts c =
    let p = err_from_is_err_and c.from_residual-in_err-record_opts.result
    c.from_residual-in_err-record_opts.ensures.1 in
    rw (
      p.1,
      p.2,
      c.in_ok-build_scope.ensures.1,
      c.in_ok-rerun_info.ensures.1,
      c.in_ok-test_list.ensures.1,
      c.in_ok-cargo_metadata.ensures,
    ) (refuses_next _ _ _ c.in_err-record_opts.ensures)

pub returns : goal.returns
returns c =
    let scope = c.in_ok-build_scope.ensures in
    let rerun = c.in_ok-rerun_info.ensures in
    let list = c.in_ok-test_list.ensures in
    let opts = c.in_ok-record_opts.ensures in
    let texts : MetadataTexts = record {
      build_scope = c.in_ok-build_scope.build_scope;
      rerun_info = c.in_ok-rerun_info.rerun_info;
      test_list = c.in_ok-test_list.test_list;
      cargo_metadata = c.in_ok-cargo_metadata.cargo_metadata;
      record_opts = c.in_ok-record_opts.record_opts;
    } in
    let parts : MetadataParts =
    record {
      build_scope = scope.0;
      rerun_info = rerun.0;
      test_list = list.0;
      cargo_metadata = string_bytes c.in_ok-cargo_metadata.cargo_metadata;
      record_opts = opts.0;
    } in (
      parts,
      rw (scope.1, rerun.1, list.1, c.in_ok-cargo_metadata.ensures, opts.1) refl,
      texts_same texts parts scope.2 rerun.2 list.2 refl opts.2,
    )
