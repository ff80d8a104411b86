-- Bases say one thing, or the first that is malformed is one.
use Rattle.std.proofs.Common.{◌≡◌, ◌⊎◌, ℕ, List, [], ◌∷◌, ◌++◌, Bool, true, false, filter, Result, Ok, Err, refl, sym, ap, subst, ◌∙◌, inl, inr}
use Rattle.std.specs.List.{AllZip}
use Rattle.std.proofs.lemmas.List.Elements.{filter-append}
use Rattle.asn.specs.Place.{body}
use Rattle.asn.proofs.Laws.{ok_is}
use Rattle.cert.specs.declared.fault.CertRule.{CertRule}
use Rattle.cert.specs.ExtensionValues.{ExtensionValues}
use Rattle.names_hosts.specs.Mail.{MailNames}
use Rattle.names_hosts.specs.Hosts.{HostNames}
use Rattle.names_hosts.proofs.Laws.{mail_base_is_one, host_base_is_one}
use Rattle.cert_hosts.specs.BaseLists.{BaseLists}
use Rattle.cert_hosts.specs.Bases.{Base, mail_base, host_base, bases_in}
use Rattle.cert_hosts.specs.Reading.{is_mail_base, is_host_base, IsMailBaseAt, IsHostBaseAt, AreSaid, IsMalformed, IsFirstMalformed, SaysBases, IsRefusedIn}

-- what is said of each is one thing
pub zip_one : {V X : Type 0} (R : V → X → Type 0) → ((value : V) (x y : X) → R value x → R value y → x ≡ y) → (values : List V) (xs ys : List X) → AllZip R values xs → AllZip R values ys → xs ≡ ys
zip_one R one [] [] [] a b = refl
zip_one R one [] [] (y ∷ ys) a b = absurd b
zip_one R one [] (x ∷ xs) ys a b = absurd a
zip_one R one (value ∷ values) [] ys a b = absurd a
zip_one R one (value ∷ values) (x ∷ xs) [] a b = absurd b
zip_one R one (value ∷ values) (x ∷ xs) (y ∷ ys) a b = ap (λ z. z ∷ xs) (one value x y a.0 b.0) ∙ ap (λ zs. y ∷ zs) (zip_one R one values xs ys a.1 b.1)

-- one of the values that pass is said
zip_has : {X : Type 0} (R : Base → X → Type 0) (front : List Base) (value : Base) (back : List Base) (xs : List X) → AllZip R (front ++ value ∷ back) xs → (x : X) × R value x
zip_has R [] value back [] a = absurd a
zip_has R [] value back (x ∷ xs) a = (x, a.0)
zip_has R (other ∷ front) value back [] a = absurd a
zip_has R (other ∷ front) value back (x ∷ xs) a = zip_has R front value back xs a.1

pub said_at : {X : Type 0} (R : Base → X → Type 0) (p : Base → Bool) (before : List Base) (value : Base) (behind : List Base) (xs : List X)
    → filter p (value ∷ behind) ≡ value ∷ filter p behind → AllZip R (filter p (before ++ value ∷ behind)) xs → (x : X) × R value x
said_at R p before value behind xs passes a =
    zip_has R (filter p before) value (filter p behind) xs
    (subst (λ (l : List Base). AllZip R l xs) (filter-append p before (value ∷ behind) ∙ ap (λ (l : List Base). filter p before ++ l) passes) a)

-- a value that is said is not malformed
pub not_malformed : (before : List Base) (value : Base) (behind : List Base) (hosts : BaseLists) (rule : CertRule) (at : ℕ)
    → AreSaid (before ++ value ∷ behind) hosts → IsMalformed value rule at → ⊥
not_malformed before (mail_base true value) behind hosts rule at said bad =
    let is = said_at IsMailBaseAt (is_mail_base true) before (mail_base true value) behind hosts.permitted_mail refl said.permitted_mail in bad.0 is.0 is.1
not_malformed before (mail_base false value) behind hosts rule at said bad =
    let is = said_at IsMailBaseAt (is_mail_base false) before (mail_base false value) behind hosts.excluded_mail refl said.excluded_mail in bad.0 is.0 is.1
not_malformed before (host_base true value) behind hosts rule at said bad =
    let is = said_at IsHostBaseAt (is_host_base true) before (host_base true value) behind hosts.permitted_hosts refl said.permitted_hosts in bad.0 is.0 is.1
not_malformed before (host_base false value) behind hosts rule at said bad =
    let is = said_at IsHostBaseAt (is_host_base false) before (host_base false value) behind hosts.excluded_hosts refl said.excluded_hosts in bad.0 is.0 is.1

same_malformed : (value : Base) (r s : CertRule) (i j : ℕ) → IsMalformed value r i → IsMalformed value s j → (r ≡ s) × (i ≡ j)
same_malformed (mail_base permitted value) r s i j a b = (a.1 ∙ sym b.1, a.2 ∙ sym b.2)
same_malformed (host_base permitted value) r s i j a b = (a.1 ∙ sym b.1, a.2 ∙ sym b.2)

-- Two that are cut at a value are cut at the same one, or the value of one stands before that of the other.
pub record CutBefore (one : List Base) (value : Base) (other : List Base) : Type 0 where
  pub between : List Base
  pub joined : other ≡ one ++ value ∷ between

cuts : (one : List Base) (v : Base) (behind : List Base) (other : List Base) (w : Base) (rest : List Base) → one ++ v ∷ behind ≡ other ++ w ∷ rest
    → (v ≡ w) ⊎ (CutBefore one v other ⊎ CutBefore other w one)
cuts [] v behind [] w rest e = inl cc
cuts [] v behind (o ∷ other) w rest e = let same : v ≡ o = cc in inr (inl (record { between = other; joined = ap (λ z. z ∷ other) (sym same) }))
cuts (o ∷ one) v behind [] w rest e = let same : o ≡ w = cc in inr (inr (record { between = one; joined = ap (λ z. z ∷ one) same }))
cuts (o ∷ one) v behind (p ∷ other) w rest e =
    let same : o ≡ p = cc in
    let tails : one ++ v ∷ behind ≡ other ++ w ∷ rest = cc in
    elim (cuts one v behind other w rest tails) [
      | inl here ↦ inl here
      | inr apart ↦ elim apart [
        | inl left ↦ inr (inl (record { between = left.between; joined = ap (λ z. z ∷ other) (sym same) ∙ ap (λ l. o ∷ l) left.joined }))
        | inr right ↦ inr (inr (record { between = right.between; joined = ap (λ z. z ∷ one) same ∙ ap (λ l. p ∷ l) right.joined }))
      ]
    ]

pub one_first : (values : List Base) (r s : CertRule) (i j : ℕ) → IsFirstMalformed values r i → IsFirstMalformed values s j → (r ≡ s) × (i ≡ j)
one_first values r s i j a b =
    elim (cuts a.before a.base a.behind b.before b.base b.behind (sym a.joined ∙ b.joined)) [
      | inl same ↦ same_malformed b.base r s i j (subst (λ v. IsMalformed v r i) same a.malformed) b.malformed
      | inr apart ↦ elim apart [
        | inl left ↦ absurd (not_malformed a.before a.base left.between b.read r i (subst (λ l. AreSaid l b.read) left.joined b.well_formed) a.malformed)
        | inr right ↦ absurd (not_malformed b.before b.base right.between a.read s j (subst (λ l. AreSaid l a.read) right.joined a.well_formed) b.malformed)
      ]
    ]

one_mail_base : (base : Base) (x y : MailNames) → IsMailBaseAt base x → IsMailBaseAt base y → x ≡ y
one_mail_base (mail_base permitted value) x y a b = mail_base_is_one (body value) x y a b
one_mail_base (host_base permitted value) x y a b = absurd a

one_host_base : (base : Base) (x y : HostNames) → IsHostBaseAt base x → IsHostBaseAt base y → x ≡ y
one_host_base (host_base permitted value) x y a b = host_base_is_one (body value) x y a b
one_host_base (mail_base permitted value) x y a b = absurd a

one_said : (bases : List Base) (a b : BaseLists) → AreSaid bases a → AreSaid bases b → a ≡ b
one_said bases a b p q =
    let permitted_mail = zip_one IsMailBaseAt one_mail_base (filter (is_mail_base true) bases) a.permitted_mail b.permitted_mail p.permitted_mail q.permitted_mail in
    let excluded_mail = zip_one IsMailBaseAt one_mail_base (filter (is_mail_base false) bases) a.excluded_mail b.excluded_mail p.excluded_mail q.excluded_mail in
    let permitted_hosts = zip_one IsHostBaseAt one_host_base (filter (is_host_base true) bases) a.permitted_hosts b.permitted_hosts p.permitted_hosts q.permitted_hosts in
    let excluded_hosts = zip_one IsHostBaseAt one_host_base (filter (is_host_base false) bases) a.excluded_hosts b.excluded_hosts p.excluded_hosts q.excluded_hosts in
    λ i. record {
      permitted_mail = permitted_mail i;
      excluded_mail = excluded_mail i;
      permitted_hosts = permitted_hosts i;
      excluded_hosts = excluded_hosts i;
    }

module _ (values : ExtensionValues) where
  same_bases : (v w : List Base) → bases_in values ≡ Ok v → bases_in values ≡ Ok w → v ≡ w
  same_bases v w a b = ok_is {E = CertRule × ℕ} v w (sym a ∙ b)

  pub one_answer : (one other : BaseLists) → SaysBases values one → SaysBases values other → one ≡ other
  one_answer one other a b =
      one_said b.bases one other (subst (λ v. AreSaid v one) (same_bases a.bases b.bases a.found b.found) a.said) b.said

  pub either : (lists : BaseLists) (rule : CertRule) (at : ℕ) → SaysBases values lists → ¬ IsRefusedIn values rule at
  either lists rule at says (inl fails) = let never : ◌≡◌ {A = Result (List Base) (CertRule × ℕ)} (Ok says.bases) (Err (rule, at)) = sym says.found ∙ fails in absurd cc
  either lists rule at says (inr bad) =
      let first = bad.first in
      not_malformed first.before first.base first.behind lists rule at
      (subst (λ v. AreSaid v lists) (same_bases says.bases bad.bases says.found bad.found ∙ first.joined) says.said) first.malformed

  pub one_refusal : (r s : CertRule) (i j : ℕ) → IsRefusedIn values r i → IsRefusedIn values s j → (r ≡ s) × (i ≡ j)
  one_refusal r s i j (inl a) (inl b) =
      let same : (r, i) ≡ (s, j) = cc in (ap (λ (p : CertRule × ℕ). p.0) same, ap (λ (p : CertRule × ℕ). p.1) same)
  one_refusal r s i j (inl a) (inr b) = let never : ◌≡◌ {A = Result (List Base) (CertRule × ℕ)} (Ok b.bases) (Err (r, i)) = sym b.found ∙ a in absurd cc
  one_refusal r s i j (inr a) (inl b) = let never : ◌≡◌ {A = Result (List Base) (CertRule × ℕ)} (Ok a.bases) (Err (s, j)) = sym a.found ∙ b in absurd cc
  one_refusal r s i j (inr a) (inr b) =
      one_first b.bases r s i j (subst (λ v. IsFirstMalformed v r i) (same_bases a.bases b.bases a.found b.found) a.first) b.first
