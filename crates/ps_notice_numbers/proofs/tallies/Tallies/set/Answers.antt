use Rattle.std.proofs.Common.{◌≡◌, ◌<◌, ◌∙◌, List, ap, sym, subst}
use Rattle.ps_base.specs.Rows.{put_row}
use Rattle.ps_types.specs.declared.jid.Jid.{Jid}
use Rattle.ps_types.specs.declared.rows.TallyRow.{TallyRow}
use Rattle.ps_model.specs.Tallies.{is_tally_of, tallies_with}
use Rattle.ps_notice_numbers.proofs.Keys.{alike, kin, put-bare, tally_of}
use Rattle.ps_notice_numbers.proofs.tallies.Tallies.set.Goals as goal

pub put-requires : goal.put-requires
put-requires c = record {
  asks = tally_of c.into_bare-who.result;
  alike = λ seed index old h. alike seed (record { who = c.into_bare-who.result; made = c.args.made; handed = c.args.handed }) old index h;
  kin = λ old h. kin (record { who = c.into_bare-who.result; made = c.args.made; handed = c.args.handed }) old h;
  room = subst (λ t. 0 < t.spare) (sym c.self.view_is) c.requires.room;
}

pub returns-clause-rows : goal.returns-clause-rows
returns-clause-rows c =
    c.put.ensures.rows
    ∙ ap (λ (j : Jid). put_row (is_tally_of j) (record { who = j; made = c.args.made; handed = c.args.handed }) c.self.inside.rows.rows) c.into_bare-who.ensures
    ∙ put-bare c.args.who _ c.self.inside.rows.rows
    ∙ ap (λ t. tallies_with c.args.who c.args.made c.args.handed t.rows) c.self.view_is
