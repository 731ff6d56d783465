use Rattle.ps_model_cases.proofs.Rows.{base-accepted, base-contacts, base-contacts-accepted, base-links, base-links-accepted, base-settled}
use Rattle.ps_model_cases.proofs.stores.compacted_rows.Goals as goal

pub returns : goal.returns
returns c = record {
  accepted = base-accepted;
  links_accepted = base-links-accepted;
  contacts_accepted = base-contacts-accepted;
  settled = base-settled;
  links_settled = base-links;
  contacts_settled =
      base-contacts;
}
