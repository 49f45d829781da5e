-- The paths of outputs are names that a container takes.
use Rattle.std.proofs.Common.{◌≡◌, ℕ, ◌+◌, List, ◌++◌, length, true, codes, arith}
use Rattle.std.proofs.lemmas.List.{length-append}
use Rattle.std.specs.Int.{w64, to_be_bytes}
use Rattle.hex.proofs.HexLemmas.{length-encode_with}
use Rattle.hex.specs.Hex.{encode_lower, lower_digits}
use Rattle.rec_container.specs.Writing.{has_name_length}
use Rattle.rec_events.specs.declared.output_names.OutputFileName.{OutputFileName}
use Rattle.rec_events.specs.declared.output_names.OutputKind.TheVariants.{Stdout, Stderr, Combined}
use Rattle.rec_events.specs.declared.output_names.OutputKind.{OutputKind}
use Rattle.rec_events.specs.OutputNames.{kind_suffix}
use Rattle.rec_store.specs.OutputPaths.{output_path}

joined : (digits suffix : List ℕ) → length digits ≡ 16
    → length (codes "out/" ++ (digits ++ suffix)) ≡ 20 + length suffix
joined digits suffix h =
    omega (arith, length-append (codes "out/") (digits ++ suffix), length-append digits suffix, h)

fits : (digits : List ℕ) (kind : OutputKind) → length digits ≡ 16
    → has_name_length (codes "out/" ++ (digits ++ kind_suffix kind)) ≡ true
fits digits Stdout h = rw (joined digits (codes "-stdout") h)
fits digits Stderr h = rw (joined digits (codes "-stderr") h)
fits digits Combined h = rw (joined digits (codes "-combined") h)

pub path_fits : (name : OutputFileName) → has_name_length (output_path name) ≡ true
unfolding output_path
path_fits name =
    fits (encode_lower (to_be_bytes w64 name.number)) name.kind
    (length-encode_with lower_digits (to_be_bytes w64 name.number))
