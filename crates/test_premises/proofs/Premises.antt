-- All premises hold.
use Rattle.std.proofs.Common.{◌≡◌, ◌∙◌, ℕ, true, List, Some, None, refl, sym, ap, option_map}
use Rattle.std.specs.Str.{bytes_eq}
use Rattle.std.proofs.lemmas.Slice.Eq.{bytes_eq-Decides}
use Rattle.sha1.specs.Sha1.{sha1}
use Rattle.cert.specs.Part.{contents}
use Rattle.statements_facts.specs.declared.profile.Profile.TheVariants.{Stated}
use Rattle.statements_facts.specs.declared.scope.Scope.TheVariants.{All, User}
use Rattle.statements_facts.specs.Statement.{IssuerIdentity, Holdings, CrlFact, OcspFact, same_issuer}
use Rattle.statements.specs.Issuer.{identity_of}
use Rattle.path.specs.declared.reason.Outcome.TheVariants.{Good}
use Rattle.relying_agreement.specs.declared.verdict.Verdict.TheVariants.{Valid}
use Rattle.relying_agreement.specs.Link.{Link, crl_slot_for, ocsp_slot_for}
use Rattle.relying_agreement.specs.Verdict.{IsVerdict, verdict_of}
use Rattle.relying_agreement.specs.Run.{genuine_facts, Party}
use Rattle.relying_agreement.specs.Agreement.{HoldSameNewest, IssuersAreConsistent}
use Rattle.test_premises.specs.Octets.{name_r}
use Rattle.test_premises.specs.Premises.{accepts_toys, AllPremisesHoldOfOctets}
use Rattle.test_premises.proofs.CertificateReading.{root, leaf, root_is_read, leaf_is_read}
use Rattle.test_premises.proofs.StatementReading.{crl, good, list_1_gives, list_2_gives, response_gives}
use Rattle.test_premises.proofs.PathMeetsConditions.{query, path_is_valid}
use Rattle.test_premises.proofs.Parties.{one, other, one_takes, other_takes, newest, all_consistent, own_consistent, responses_consistent, Holds, one_holds, other_holds}

abbrev issuer : IssuerIdentity
issuer = identity_of root

abbrev hash : List ℕ
hash = sha1 name_r

same : (xs : List ℕ) → bytes_eq xs xs ≡ true
same xs = (bytes_eq-Decides xs xs).1 refl

itself : same_issuer issuer issuer ≡ true
itself = rw (same issuer.name, same issuer.key_info) refl

abbrev a : Party
a = one issuer hash

abbrev b : Party
b = other issuer hash

a_holds : Holds issuer hash itself (same hash) a.held
a_holds = one_holds issuer hash itself (same hash)

b_holds : Holds issuer hash itself (same hash) b.held
b_holds = other_holds issuer hash itself (same hash)

abbrev link : Link
link = record { number = 1; issuer = root; certificate = leaf }

valid_where : (held : Holdings) → held.crl (crl_slot_for link All) ≡ Some (crl 2) → held.crl (crl_slot_for link User) ≡ None → held.ocsp (ocsp_slot_for link) ≡ Some good
    → Valid ≡ verdict_of Good query held
valid_where held all own ocsp = rw (all, own, ocsp) refl

valid_of : (held : Holdings) → Holds issuer hash itself (same hash) held → IsVerdict accepts_toys query held Valid
unfolding contents
valid_of held holds = record { outcome = Good; is_outcome = path_is_valid; verdict_is = valid_where held holds.all holds.own holds.ocsp }

same_newest : HoldSameNewest query a.held b.held
unfolding contents
same_newest = (
  record {
    lists = (
      ap (option_map (λ (fact : CrlFact). fact.number)) (a_holds.all ∙ sym b_holds.all),
      (ap (option_map (λ (fact : CrlFact). fact.number)) (a_holds.own ∙ sym b_holds.own), tt),
    );
    ocsp = ap (option_map (λ (fact : OcspFact). fact.times)) (a_holds.ocsp ∙ sym b_holds.ocsp);
  },
  tt,
)

consistent : IssuersAreConsistent query a b
unfolding contents
consistent = (
  record {
    lists = (all_consistent issuer hash itself (same hash), (own_consistent issuer hash itself (same hash), tt));
    ocsp = responses_consistent issuer hash itself (same hash);
  },
  tt,
)

pub all_premises_hold : AllPremisesHoldOfOctets
all_premises_hold = record {
  root = root;
  leaf = leaf;
  root_is_read = root_is_read;
  leaf_is_read = leaf_is_read;
  query = query;
  query_is = refl;
  one = a;
  other = b;
  one_starts = refl;
  other_starts = refl;
  one_accepts = refl;
  other_accepts = refl;
  one_ran = record { taken = one_takes (genuine_facts Stated) issuer hash list_1_gives list_2_gives response_gives; newest = newest a.taken };
  other_ran = record { taken = other_takes (genuine_facts Stated) issuer hash list_1_gives list_2_gives response_gives; newest = newest b.taken };
  consistent = consistent;
  same_newest = same_newest;
  one_is_valid = valid_of a.held a_holds;
  other_is_valid = valid_of b.held b_holds;
}
