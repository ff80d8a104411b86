-- The order of mail addresses, and what is kept of bases on them.
use Rattle.std.proofs.Common.{◌≡◌, ◌⊎◌, ◌<◌, ℕ, zero, suc, List, [], ◌∷◌, length, get_or, Bool, true, false, ◌||◌, map, refl, sym, ◌∙◌, ap, subst, inl, inr, arith, IsTrue}
use Rattle.std.specs.Prelude.{◌↔◌, Any, nat_eq}
use Rattle.std.specs.List.{list_any}
use Rattle.std.specs.List.Sorted.{IsSortedBy, IsPermutation}
use Rattle.std.specs.declared.cmp.Ordering.{Ordering}
use Rattle.std.specs.declared.cmp.Ordering.TheVariants.{Less, Equal, Greater}
use Rattle.std.specs.Ordering.{nat_cmp, is_eq, ordering_then}
use Rattle.std.specs.Cmp.{IsTotalOrder}
use Rattle.std.specs.Cmp.Lexicographic.{slice_cmp, pointwise}
use Rattle.std.proofs.lemmas.Bool.{and_parts, and_from, both_ways}
use Rattle.std.proofs.lemmas.Cmp.{on_total, then_total, nat_list_cmp_total, tied_itself}
use Rattle.std.proofs.lemmas.List.Sorted.{list_any-IsPermutation}
use Rattle.std.proofs.lemmas.Map.Lookups.{exact_bytes}
use Rattle.names_hosts.specs.declared.mail.MailName.{MailName}
use Rattle.names_hosts.specs.declared.mail.MailBase.{MailBase}
use Rattle.names_hosts.specs.declared.mail.MailBase.TheVariants as B
use Rattle.names_hosts.specs.declared.hosts.HostBase.{HostBase}
use Rattle.names_hosts.specs.Hosts.{HostNames, host_names, IsSameHost, AreHostsInside}
use Rattle.names_hosts.specs.Mail.{MailText, mail_text, MailNames, one_mailbox, mail_at, mail_names, IsSameMailbox, IsAmongMail, IsMailInside}
use Rattle.names_hosts.specs.HostLists.{is_same_host, is_host_among, one_has_host, host_order, HasHost, HoldsHosts}
use Rattle.names_hosts.specs.MailLists.{HasMail, HoldsMail, is_same_mailbox, is_mail_among, one_has_mail, mail_order, is_mail_before, is_one_mailbox, mailboxes_in, hosts_at, IsMailIndex}
use Rattle.names_hosts.proofs.HostTests.{same_tests}
use Rattle.names_hosts.proofs.HostOrder.{hosts_total, same_by, by_same, same_host_is_exact, equal_is_exact}
use Rattle.names_hosts.proofs.HostMembers.{or_assoc, or_between, among_is_exact, any_is_exact, any_as, host_decided}

pub mails_total : IsTotalOrder mail_order
mails_total = then_total (on_total (λ (m : MailText). m.host) hosts_total) (on_total (λ (m : MailText). m.local) nat_list_cmp_total)

both_equal : (o p : Ordering) → ordering_then o p ≡ Equal → (o ≡ Equal) × (p ≡ Equal)
both_equal Less p h = cc
both_equal Equal p h = (refl, h)
both_equal Greater p h = cc

then_equal : (o p : Ordering) → o ≡ Equal → p ≡ Equal → ordering_then o p ≡ Equal
then_equal o p e f = ap (λ (q : Ordering). ordering_then q p) e ∙ f

same_locals : (a b : List ℕ) → b ≡ a → slice_cmp nat_cmp a b ≡ Equal
same_locals a b e = ap (slice_cmp nat_cmp a) e ∙ tied_itself nat_list_cmp_total a

-- mail addresses are equal in their order just if they are the same
pub equal_mail_is_exact : (name one : MailText) → ((mail_order one name ≡ Equal) ↔ IsTrue (is_same_mailbox name one))
equal_mail_is_exact name one = (
  λ h. let parts = both_equal (host_order one.host name.host) (slice_cmp nat_cmp one.local name.local) h in
      and_from (is_same_host name.host one.host) (pointwise nat_eq name.local one.local) ((equal_is_exact name.host one.host).0 parts.0)
      (by_same name.local one.local (sym (exact_bytes one.local name.local parts.1))),
  λ t. let parts = and_parts (is_same_host name.host one.host) (pointwise nat_eq name.local one.local) t in
      then_equal (host_order one.host name.host) (slice_cmp nat_cmp one.local name.local)
      ((equal_is_exact name.host one.host).1 parts.0) (same_locals one.local name.local (same_by name.local one.local parts.1)),
)

-- a mail address is one of the mailboxes, or at one of the hosts
parted :
    (list : List MailBase) (name : MailText) →
    one_has_mail (map mail_names list) name ≡ (list_any (is_same_mailbox name) (mailboxes_in list) || one_has_host (hosts_at list) name.host)
parted [] name = refl
parted (B.Mailbox mailbox ∷ list) name =
    ap (λ (b : Bool). is_same_mailbox name (mail_text mailbox) || b) (parted list name)
    ∙ or_assoc (is_same_mailbox name (mail_text mailbox)) (list_any (is_same_mailbox name) (mailboxes_in list)) (one_has_host (hosts_at list) name.host)
parted (B.Hosts hosts ∷ list) name =
    ap (λ (b : Bool). is_host_among name.host (host_names hosts) || b) (parted list name)
    ∙ or_between (is_host_among name.host (host_names hosts)) (list_any (is_same_mailbox name) (mailboxes_in list)) (one_has_host (hosts_at list) name.host)

any_mapped : (test : MailText → Bool) (list : List MailName) → list_any test (map mail_text list) ≡ list_any (λ one. test (mail_text one)) list
any_mapped test [] = refl
any_mapped test (one ∷ list) = ap (λ (b : Bool). test (mail_text one) || b) (any_mapped test list)

pub indexed :
    (all : List MailBase) (found mailboxes : List MailName) (hosts : List HostBase) (index : List HostNames) →
    map mail_text found ≡ mailboxes_in all → IsPermutation found mailboxes → IsSortedBy is_mail_before mailboxes →
    map host_names hosts ≡ hosts_at all → index ≡ map host_names hosts → IsMailIndex all mailboxes index
indexed all found mailboxes hosts index found_are permuted sorted hosts_are kept = record {
  sorted = sorted;
  found = λ name.
      ap (list_any (is_same_mailbox name)) (sym found_are)
      ∙ (any_mapped (is_same_mailbox name) found ∙ list_any-IsPermutation (λ one. is_same_mailbox name (mail_text one)) found mailboxes permuted);
  kept = kept ∙ hosts_are;
}

same_of :
    (all : List MailBase) (mailboxes : List MailName) (hosts : List HostNames) → IsMailIndex all mailboxes hosts → (name : MailText) →
    one_has_mail (map mail_names all) name ≡ (is_one_mailbox mailboxes name || one_has_host hosts name.host)
same_of all mailboxes hosts index name =
    parted all name
    ∙ (ap (λ (b : Bool). b || one_has_host (hosts_at all) name.host) (index.found name)
    ∙ ap (λ (l : List HostNames). is_one_mailbox mailboxes name || one_has_host l name.host) (sym index.kept))

-- the test of one base is exact
same_mailbox_is_exact : (name other : MailText) → (IsTrue (is_same_mailbox name other) ↔ IsSameMailbox name other)
same_mailbox_is_exact name other = (
  λ t. let parts = and_parts (is_same_host name.host other.host) (pointwise nat_eq name.local other.local) t in
      record { local = same_by name.local other.local parts.1; host = (same_host_is_exact name.host other.host).0 parts.0 },
  λ s. and_from (is_same_host name.host other.host) (pointwise nat_eq name.local other.local) ((same_host_is_exact name.host other.host).1 s.host)
      (by_same name.local other.local s.local),
)

mail_among_is_exact : (name : MailText) (base : MailNames) → (IsTrue (is_mail_among name base) ↔ IsAmongMail name base)
mail_among_is_exact name (one_mailbox other) = same_mailbox_is_exact name other
mail_among_is_exact name (mail_at hosts) = among_is_exact name.host hosts

mail_decided : (bases : List MailNames) (name : MailText) (b : Bool) → b ≡ one_has_mail bases name → (IsTrue b ↔ HasMail bases name)
mail_decided bases name b e = any_is_exact (λ base. is_mail_among name base) (λ base. IsAmongMail name base) (λ base. mail_among_is_exact name base) bases b e

-- the two answers of the code
pub covered_here :
    (all : List MailBase) (mailboxes : List MailName) (hosts : List HostNames) (bases : List MailNames) (name : MailText) (b : Bool) →
    IsMailIndex all mailboxes hosts → map mail_names all ≡ bases → b ≡ is_one_mailbox mailboxes name → b ≡ true → (IsTrue b ↔ HasMail bases name)
covered_here all mailboxes hosts bases name b index are e t =
    mail_decided bases name b
    (t ∙ sym (ap (λ (l : List MailNames). one_has_mail l name) (sym are)
    ∙ (same_of all mailboxes hosts index name ∙ ap (λ (c : Bool). c || one_has_host hosts name.host) (sym e ∙ t))))

pub covered_at_host :
    (all : List MailBase) (mailboxes : List MailName) (hosts : List HostNames) (bases : List MailNames) (name : MailText) (b c : Bool) →
    IsMailIndex all mailboxes hosts → map mail_names all ≡ bases → b ≡ is_one_mailbox mailboxes name → b ≡ false →
    (IsTrue c ↔ HasHost hosts name.host) → (IsTrue c ↔ HasMail bases name)
covered_at_host all mailboxes hosts bases name b c index are e f g =
    let d = one_has_host hosts name.host in
    let decided = host_decided hosts name.host d refl in
    let h : c ≡ d = same_tests c d (λ t. decided.1 (g.0 t)) (λ t. g.1 (decided.0 t)) in
    mail_decided bases name c
    (h ∙ sym (ap (λ (l : List MailNames). one_has_mail l name) (sym are)
    ∙ (same_of all mailboxes hosts index name ∙ ap (λ (d : Bool). d || one_has_host hosts name.host) (sym e ∙ f))))

-- one mailbox lies in what has it
inside_mailbox : (name : MailText) (other : MailNames) → (IsMailInside (one_mailbox name) other ↔ IsAmongMail name other)
inside_mailbox name (one_mailbox mailbox) = (λ h. h, λ h. h)
inside_mailbox name (mail_at hosts) = (λ h. h, λ h. h)

pub held_mailbox :
    (bases : List MailNames) (name : MailText) (b : Bool) → (IsTrue b ↔ HasMail bases name) → (IsTrue b ↔ HoldsMail bases (one_mailbox name))
held_mailbox bases name b e = (
  λ t. any_as (λ other. IsAmongMail name other) (λ other. IsMailInside (one_mailbox name) other) (λ other. (inside_mailbox name other).1) bases (e.0 t),
  λ a. e.1 (any_as (λ other. IsMailInside (one_mailbox name) other) (λ other. IsAmongMail name other) (λ other. (inside_mailbox name other).0) bases a),
)

-- one of several is the first, or a later one
first_or_later :
    {X : Type 0} (P : X → Type 0) (x : X) (xs : List X) (k : ℕ) (y : X) → k < length (x ∷ xs) → get_or (x ∷ xs) k y ≡ y → P y → P x ⊎ Any P xs
first_or_later P x xs zero y lt e p = inl (subst P (sym e) p)
first_or_later P x xs (suc k) y lt e p = inr (k, y, omega arith, e, p)

later : {X : Type 0} (P : X → Type 0) (x : X) (xs : List X) → Any P xs → Any P (x ∷ xs)
later P x xs a = (suc a.0, a.1, omega (arith, a.2), a.3, a.4)

first : {X : Type 0} (P : X → Type 0) (x : X) (xs : List X) → P x → Any P (x ∷ xs)
first P x xs p = (0, x, omega arith, refl, p)

-- hosts lie in the hosts of the bases just if all mail addresses at them lie in the bases
abbrev Inside : HostNames → HostNames → Type 0
Inside inner other = AreHostsInside inner other

abbrev MailInside : HostNames → MailNames → Type 0
MailInside inner other = IsMailInside (mail_at inner) other

raised : (inner : HostNames) (list : List MailBase) → Any (Inside inner) (hosts_at list) → Any (MailInside inner) (map mail_names list)
raised inner [] a = absurd (omega (arith, a.2))
raised inner (B.Mailbox mailbox ∷ list) a =
    later (MailInside inner) (one_mailbox (mail_text mailbox)) (map mail_names list) (raised inner list a)
raised inner (B.Hosts hosts ∷ list) a =
    elim (first_or_later (Inside inner) (host_names hosts) (hosts_at list) a.0 a.1 a.2 a.3 a.4) [
      | inl here ↦ first (MailInside inner) (mail_at (host_names hosts)) (map mail_names list) here
      | inr more ↦ later (MailInside inner) (mail_at (host_names hosts)) (map mail_names list) (raised inner list more)
    ]

lowered : (inner : HostNames) (list : List MailBase) → Any (MailInside inner) (map mail_names list) → Any (Inside inner) (hosts_at list)
lowered inner [] a = absurd (omega (arith, a.2))
lowered inner (B.Mailbox mailbox ∷ list) a =
    elim (first_or_later (MailInside inner) (one_mailbox (mail_text mailbox)) (map mail_names list) a.0 a.1 a.2 a.3 a.4) [
      | inl here ↦ absurd here
      | inr more ↦ lowered inner list more
    ]
lowered inner (B.Hosts hosts ∷ list) a =
    elim (first_or_later (MailInside inner) (mail_at (host_names hosts)) (map mail_names list) a.0 a.1 a.2 a.3 a.4) [
      | inl here ↦ first (Inside inner) (host_names hosts) (hosts_at list) here
      | inr more ↦ later (Inside inner) (host_names hosts) (hosts_at list) (lowered inner list more)
    ]

pub held_hosts :
    (all : List MailBase) (mailboxes : List MailName) (hosts : List HostNames) (bases : List MailNames) (inner : HostNames) (b : Bool) →
    IsMailIndex all mailboxes hosts → map mail_names all ≡ bases → (IsTrue b ↔ HoldsHosts hosts inner) →
    (IsTrue b ↔ HoldsMail bases (mail_at inner))
held_hosts all mailboxes hosts bases inner b index are e = (
  λ t. subst (Any (MailInside inner)) are (raised inner all (subst (Any (Inside inner)) index.kept (e.0 t))),
  λ a. e.1 (subst (Any (Inside inner)) (sym index.kept) (lowered inner all (subst (Any (MailInside inner)) (sym are) a))),
)

-- one mailbox, by the comparison of local parts
is_equal : (o : Ordering) → is_eq o ≡ true → o ≡ Equal
is_equal Less t = absurd cc
is_equal Equal t = refl
is_equal Greater t = absurd cc

pub same_by_order :
    (x y : MailText) (o : Ordering) (b : Bool) → o ≡ slice_cmp nat_cmp x.local y.local → is_eq o ≡ true →
    (IsTrue b ↔ IsSameHost x.host y.host) → (IsTrue b ↔ IsSameMailbox x y)
same_by_order x y o b e t h =
    let locals = exact_bytes x.local y.local (sym e ∙ is_equal o t) in
    (λ u. record { local = locals; host = h.0 u }, λ s. h.1 s.host)

pub other_by_order :
    (x y : MailText) (o : Ordering) (b : Bool) → o ≡ slice_cmp nat_cmp x.local y.local → is_eq o ≡ false → b ≡ false →
    (IsTrue b ↔ IsSameMailbox x y)
other_by_order x y o b e f none = (
  λ u. absurd (both_ways b none u),
  λ s. absurd (both_ways (is_eq o) f (ap is_eq (e ∙ same_locals x.local y.local (sym s.local)))),
)
