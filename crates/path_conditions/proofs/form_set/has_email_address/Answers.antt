use Rattle.std.proofs.Common.{◌≡◌, ◌↔◌, subst, true, List, ℕ}
use Rattle.names.specs.DistinguishedName.{HasKind}
use Rattle.names.specs.NameOctets.{rdns_of}
use Rattle.path_conditions.proofs.form_set.has_email_address.Goals as goal

pub returns : goal.returns
returns c = subst (λ (kind : List ℕ). (c.has.result ≡ true) ↔ HasKind kind (rdns_of c.args.subject)) c.new.ensures c.has.ensures
