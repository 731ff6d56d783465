use Rattle.std.proofs.Common.{◌≡◌}
use Rattle.ps_base.proofs.Rows.{put_at-position}
use Rattle.ps_model.specs.Tallies.{is_line_of, lines_with}
use Rattle.ps_core.proofs.lines.LastLines.set.Goals as goal

pub returns : goal.returns
returns c =
    let row = c.args.row in
    let placed = put_at-position (is_line_of row.host) row c.args.self.now.rows in
    record {
      rows = let e : c.put_at.new.self.rows ≡ lines_with row.host row.line c.args.self.now.rows = cc
          (placed, c.put_at.ensures.rows, c.place_of-at.ensures, c.as_slice.ensures.rows, c.self.view_is) in e;
    }
