use Rattle.std.proofs.Common.{rules}
use Rattle.rec_directory.proofs.file.read_prefix.Goals as goal
use Rattle.rec_directory.proofs.Starts.{start_more}

pub pieces-preserved : goal.pieces-preserved
pieces-preserved g c =
    let files = g.D.Disk.files in
    record {
      start =
          start_more (files c.args.disk.now) (files c.pieces.disk) c.args.path.now
          c.pieces.bytes.items c.read.new.buf c.extend_from_slice.new.self.items c.in_ok-count.count
          c.pieces.invariant.start c.pieces.invariant.same (search rules) (search rules);
      same = search rules;
      later = search rules;
      within = search rules;
    }
