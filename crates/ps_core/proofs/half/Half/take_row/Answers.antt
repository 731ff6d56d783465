use Rattle.std.proofs.Common.{◌≡◌, ◌+◌, Option, Some, refl, subst}
use Rattle.std.specs.Prelude.{option_map}
use Rattle.ps_compact_codec.specs.Held.{held_row_of}
use Rattle.ps_compact_codec.specs.Said.{row_said}
use Rattle.ps_compact_codec.specs.declared.row.StoredRow.{StoredRow}
use Rattle.ps_core.specs.States.{part_of}
use Rattle.ps_core.specs.declared.half.Half.{Half}
use Rattle.ps_core.proofs.TakenRows.{based-key, based-part}
use Rattle.ps_core.proofs.half.Half.take_row.Goals as goal

pub put_in_tables-requires : goal.put_in_tables-requires
put_in_tables-requires c =
    let t = c.args.tree.now in
    let is : Some (row_said c.in-Some.row) ≡ held_row_of t = subst (λ (o : Option StoredRow). option_map row_said o ≡ held_row_of t) c.in-Some.is c.in_ok-row.ensures.row in
    record { key = based-key (part_of c.args.self.now) t (row_said c.in-Some.row) is c.requires.accepted }

pub returns-clause-state : goal.returns-clause-state
returns-clause-state c =
    let t = c.args.tree.now in
    let is : Some (row_said c.in-Some.row) ≡ held_row_of t = subst (λ (o : Option StoredRow). option_map row_said o ≡ held_row_of t) c.in-Some.is c.in_ok-row.ensures.row in
    let now : Half = record {
      tables = c.put_in_tables.new.tables;
      count = c.args.self.now.count + 1;
      lines = c.args.self.now.lines;
      wants = c.args.self.now.wants;
      seed = c.args.self.now.seed;
    } in
    based-part (part_of c.args.self.now) t (row_said c.in-Some.row) is c.requires.accepted (part_of now) c.in_ok-put_in_tables-in-Some.ensures.book refl refl
