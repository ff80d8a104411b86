-- What bases say, one more at a time.
use Rattle.std.proofs.Common.{◌≡◌, ◌<◌, ◌+◌, ℕ, suc, List, [], ◌∷◌, ◌++◌, Bool, true, false, length, map, filter, take, drop, get_or, refl, sym, ap, subst, ◌∙◌, append-nil}
use Rattle.std.specs.List.{AllZip}
use Rattle.std.proofs.lemmas.List.{map_more, map-append, take-append-drop}
use Rattle.std.proofs.lemmas.List.Elements.{filter-append}
use Rattle.std.proofs.Math.Seq.{drop-cons}
use Rattle.asn.specs.Place.{Place}
use Rattle.cert.specs.declared.fault.CertFault.{CertFault}
use Rattle.cert.specs.declared.fault.CertFault.TheVariants.{Refused, Memory}
use Rattle.names_hosts.specs.Hosts.{HostNames}
use Rattle.names_hosts.specs.Mail.{MailNames}
use Rattle.cert_hosts.specs.declared.base.Base as code
use Rattle.cert_hosts.specs.BaseLists.{BaseLists, no_bases, with_mail_base, with_host_base}
use Rattle.cert_hosts.specs.Bases.{Base, seen_base, mail_base, host_base}
use Rattle.cert_hosts.specs.Reading.{is_mail_base, is_host_base, IsMailBaseAt, IsHostBaseAt, AreSaid, TellsWith, IsMalformedFor, IsFirstFor}

zip_append : {X : Type 0} (R : Base → X → Type 0) (these those : List Base) (xs ys : List X) → AllZip R these xs → AllZip R those ys → AllZip R (these ++ those) (xs ++ ys)
zip_append R [] those [] ys a b = b
zip_append R [] those (x ∷ xs) ys a b = absurd a
zip_append R (s ∷ these) those [] ys a b = absurd a
zip_append R (s ∷ these) those (x ∷ xs) ys a b = (a.0, zip_append R these those xs ys a.1 b)

-- one that passes the test is said as well
more : {X : Type 0} (R : Base → X → Type 0) (p : Base → Bool) (before : List Base) (value : Base) (xs : List X) (x : X)
    → AllZip R (filter p before) xs → filter p (value ∷ []) ≡ value ∷ [] → R value x → AllZip R (filter p (before ++ value ∷ [])) (xs ++ x ∷ [])
more R p before value xs x said passes is =
    subst (λ l. AllZip R l (xs ++ x ∷ [])) (sym (filter-append p before (value ∷ []) ∙ ap (λ (l : List Base). filter p before ++ l) passes))
    (zip_append R (filter p before) (value ∷ []) xs (x ∷ []) said (is, tt))

-- one that does not is passed over
same : {X : Type 0} (R : Base → X → Type 0) (p : Base → Bool) (before : List Base) (value : Base) (xs : List X)
    → AllZip R (filter p before) xs → filter p (value ∷ []) ≡ [] → AllZip R (filter p (before ++ value ∷ [])) xs
same R p before value xs said fails =
    subst (λ l. AllZip R l xs)
    (sym (filter-append p before (value ∷ []) ∙ (ap (λ (l : List Base). filter p before ++ l) fails ∙ append-nil (filter p before)))) said

pub mail_base_told : (permitted : Bool) (value : Place) (names : MailNames) (old : BaseLists) → IsMailBaseAt (mail_base permitted value) names
    → TellsWith (mail_base permitted value) old (with_mail_base permitted names old)
mail_base_told true value names old is before said = record {
  permitted_mail = more IsMailBaseAt (is_mail_base true) before (mail_base true value) old.permitted_mail names said.permitted_mail refl is;
  excluded_mail = same IsMailBaseAt (is_mail_base false) before (mail_base true value) old.excluded_mail said.excluded_mail refl;
  permitted_hosts = same IsHostBaseAt (is_host_base true) before (mail_base true value) old.permitted_hosts said.permitted_hosts refl;
  excluded_hosts = same IsHostBaseAt (is_host_base false) before (mail_base true value) old.excluded_hosts said.excluded_hosts refl;
}
mail_base_told false value names old is before said = record {
  permitted_mail = same IsMailBaseAt (is_mail_base true) before (mail_base false value) old.permitted_mail said.permitted_mail refl;
  excluded_mail = more IsMailBaseAt (is_mail_base false) before (mail_base false value) old.excluded_mail names said.excluded_mail refl is;
  permitted_hosts = same IsHostBaseAt (is_host_base true) before (mail_base false value) old.permitted_hosts said.permitted_hosts refl;
  excluded_hosts = same IsHostBaseAt (is_host_base false) before (mail_base false value) old.excluded_hosts said.excluded_hosts refl;
}

pub host_base_told : (permitted : Bool) (value : Place) (names : HostNames) (old : BaseLists) → IsHostBaseAt (host_base permitted value) names
    → TellsWith (host_base permitted value) old (with_host_base permitted names old)
host_base_told true value names old is before said = record {
  permitted_mail = same IsMailBaseAt (is_mail_base true) before (host_base true value) old.permitted_mail said.permitted_mail refl;
  excluded_mail = same IsMailBaseAt (is_mail_base false) before (host_base true value) old.excluded_mail said.excluded_mail refl;
  permitted_hosts = more IsHostBaseAt (is_host_base true) before (host_base true value) old.permitted_hosts names said.permitted_hosts refl is;
  excluded_hosts = same IsHostBaseAt (is_host_base false) before (host_base true value) old.excluded_hosts said.excluded_hosts refl;
}
host_base_told false value names old is before said = record {
  permitted_mail = same IsMailBaseAt (is_mail_base true) before (host_base false value) old.permitted_mail said.permitted_mail refl;
  excluded_mail = same IsMailBaseAt (is_mail_base false) before (host_base false value) old.excluded_mail said.excluded_mail refl;
  permitted_hosts = same IsHostBaseAt (is_host_base true) before (host_base false value) old.permitted_hosts said.permitted_hosts refl;
  excluded_hosts = more IsHostBaseAt (is_host_base false) before (host_base false value) old.excluded_hosts names said.excluded_hosts refl is;
}

-- the first i values say this
abbrev pub AreSaidBy : List code.Base → ℕ → BaseLists → Type 0
AreSaidBy values i hosts = AreSaid (map seen_base (take i values)) hosts

pub one_more : (values : List code.Base) (i : ℕ) (d : code.Base) (old new : BaseLists) → i < length values
    → TellsWith (seen_base (get_or values i d)) old new → AreSaidBy values i old → AreSaidBy values (i + 1) new
one_more values i d old new low tells said =
    subst (λ (l : List Base). AreSaid l new) (sym (map_more seen_base values i d low)) (tells (map seen_base (take i values)) said)

divided : (values : List code.Base) (i : ℕ) (d : code.Base) → i < length values
    → map seen_base values ≡ map seen_base (take i values) ++ seen_base (get_or values i d) ∷ map seen_base (drop (suc i) values)
divided values i d low =
    ap (map seen_base) (sym (take-append-drop i values))
    ∙ (map-append seen_base (take i values) (drop i values)
    ∙ ap (λ (l : List code.Base). map seen_base (take i values) ++ map seen_base l) (drop-cons values i d low))

pub first_malformed : (values : List code.Base) (i : ℕ) (d : code.Base) (told : BaseLists) (fault : CertFault) → i < length values
    → IsMalformedFor (seen_base (get_or values i d)) fault → AreSaidBy values i told → IsFirstFor (map seen_base values) fault
first_malformed values i d told Memory low malformed said = tt
first_malformed values i d told (Refused rule at) low malformed said = record {
  before = map seen_base (take i values);
  base = seen_base (get_or values i d);
  behind = map seen_base (drop (suc i) values);
  joined = divided values i d low;
  read = told;
  well_formed = said;
  malformed = malformed;
}

pub none_said : AreSaid [] no_bases
none_said = record { permitted_mail = tt; excluded_mail = tt; permitted_hosts = tt; excluded_hosts = tt }
