use Rattle.std.proofs.Common.{arith, ◌≡◌, ◌*◌, ◌<◌, ◌^◌, pos, sym, ◌∙◌}
use Rattle.std.proofs.lemmas.Int.{to_z_pos}
use mir.Syntax.{w64}
use mir.Val.{to_z}
use Rattle.jiff_core.proofs.SignedLemmas.{signed_arith}
use Rattle.jiff_core.specs.DateTime.{civil_nanos}
use Rattle.ps_fanout.proofs.Stamps.{stamp-is}
use Rattle.ps_fanout.proofs.moments.stamp.Goals as goal

pub returns : goal.returns
returns c =
    let early : c.args.moment < 2 ^ 63 = omega (arith, c.requires) in
    let cast : to_z w64 c.args.moment ≡ pos c.args.moment = to_z_pos w64 c.args.moment early in
    let nanos : civil_nanos c.to_datetime-shown.result ≡ pos (c.args.moment * 1000000000) = omega (arith, signed_arith, cast, c.to_datetime-shown.ensures, c.in-Ok.ensures.value) in
    record { text = c.from_string.ensures ∙ c.in_ok-text-in-Ok.ensures.ok ∙ sym (stamp-is c.args.moment c.to_datetime-shown.result nanos) }
