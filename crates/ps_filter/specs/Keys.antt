-- By what the rows are found: by the resource, by the name of the nodes, and by the resource's host.
use Rattle.std.specs.Prelude.{◌≡◌, ℕ, Bool, bytes_eq}
use Rattle.std.proofs.Common.{sym, refl, ◌∙◌}
use Rattle.std.proofs.lemmas.Slice.Eq.{bytes_eq-Decides}
use Rattle.ps_rows.specs.declared.index.Index.{Index}
use Rattle.ps_rows.specs.declared.index.Index.TheVariants.{Key, Node, Bare}
use Rattle.ps_rows.specs.Digests.{jid_digest, text_digest}
use Rattle.ps_rows.specs.Kin.{IsKin}
use Rattle.ps_filter.specs.declared.want.Want.{Want}

abbrev pub want_by : ℕ → Index → Want → ℕ
want_by seed Key want = jid_digest seed want.who
want_by seed Node want = text_digest seed want.name
want_by seed Bare want = text_digest seed want.who.host

-- rows of one name
abbrev pub want_kin : Want → Want → Bool
want_kin x y = bytes_eq x.name y.name

pub want_kin_is : IsKin want_kin
want_kin_is = record {
  itself = λ x. (bytes_eq-Decides x.name x.name).1 refl;
  back = λ x y h. (bytes_eq-Decides y.name x.name).1 (sym ((bytes_eq-Decides x.name y.name).0 h));
  on = λ x y z h k. (bytes_eq-Decides x.name z.name).1 ((bytes_eq-Decides x.name y.name).0 h ∙ (bytes_eq-Decides y.name z.name).0 k);
}
