use Rattle.std.proofs.Common.{◌≡◌, length, take, drop, arith}
use Rattle.std.proofs.lemmas.Grind.{common_steps}
use Rattle.ps_wire.proofs.MemoryBytes.{read_splits, read_ends}
use Rattle.ps_wire.proofs.memory.MemSourceSource.read.Goals as goal

pub returns-clause-bytes : goal.returns-clause-bytes
returns-clause-bytes c =
    let s = c.self.inside in
    let n = c.min-count.result in
    let is : c.copy_from_slice.new.self ≡ take n (drop s.at s.bytes.items) = grind (arith, common_steps) in
    let long : length c.copy_from_slice.new.self ≡ n = grind (arith, common_steps) in
    rw (← c.self.view_is) (
      read_splits s.bytes.items c.copy_from_slice.new.self c.args.room.now s.at n is long,
      λ none some. read_ends s.bytes.items s.at n (length c.args.room.now) (grind (arith, common_steps)) none (grind (arith, common_steps)),
    )
