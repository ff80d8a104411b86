-- The constraints that are held are those that the certificates before one leave, and what they ask is what these ask of it.
-- These are the laws that other crates may cite.
use Rattle.std.proofs.Common.{◌≡◌, ◌⊎◌, ◌↔◌, ◌<◌, ◌≤◌, ◌+◌, ℕ, zero, suc, Bool, true, List, Option, None, Some, arith, refl, sym, ap, subst, inl, inr, Contains}
use Rattle.std.specs.Prelude.{IsTrue}
use Rattle.std.proofs.lemmas.Bool.{cases_lt, false≢true}
use Rattle.names_hosts.specs.Hosts.{IsAmongHosts}
use Rattle.names_hosts.specs.Mail.{MailText, IsAmongMail}
use Rattle.names_hosts.specs.HostLists.{HasHost}
use Rattle.names_hosts.specs.MailLists.{HasMail}
use Rattle.cert.specs.CertificateHosts.{CertificateHosts}
use Rattle.path_host_constraints.specs.MailLists.{PermitsMailIn}
use Rattle.path_host_constraints.specs.Lists.{PermitsFoundIn, HasFound}
use Rattle.path_host_constraints.specs.HostLists.{PermitsHostIn}
use Rattle.path_host_constraints.specs.HostConditions.{PermitsMail, PermitsHost, ConstrainsMail, ConstrainsUris, PermitHosts, ExcludeNoHost, HaveHosts, HostsArePermitted, HostsAreNotExcluded, UrisHaveHosts}
use Rattle.path_host_constraints.specs.HostConstraints.{HostConstraints, no_constraints, Narrows, AreLeftBy, Permit, DoNotExclude, FindHosts, base_count, bases_in, bases_before}
use Rattle.path_host_constraints.proofs.Narrowed.{in_none}

-- what holds of all before one and of it, and what holds of one of them or of it
all_more : (P : ℕ → Type 0) (j : ℕ) → ((i : ℕ) → 1 ≤ i → i < j → P i) → P j → (i : ℕ) → 1 ≤ i → i < j + 1 → P i
all_more P j before here i l h = elim (cases_lt i j) [
  | inl less ↦ before i l less
  | inr high ↦ let same : j ≡ i = omega (arith, high, h) in subst P same here
]

abbrev SomeBefore : (ℕ → Type 0) → ℕ → Type 0
SomeBefore P j = (i : ℕ) × (1 ≤ i) × (i < j) × P i

some_more : (P : ℕ → Type 0) (j : ℕ) → 1 ≤ j → (SomeBefore P j ⊎ P j) → SomeBefore P (j + 1)
some_more P j from (inl before) = let h = before.2 in (before.0, before.1, omega arith, before.3)
some_more P j from (inr here) = (j, from, omega arith, here)

some_cases : (P : ℕ → Type 0) (j : ℕ) → SomeBefore P (j + 1) → SomeBefore P j ⊎ P j
some_cases P j some = elim (cases_lt some.0 j) [
  | inl less ↦ inl (some.0, some.1, less, some.3)
  | inr high ↦ let h = some.2 in let same : some.0 ≡ j = omega (arith, high, h) in inr (subst P same some.3)
]

not_some : (P : ℕ → Type 0) → SomeBefore P 1 → ⊥
not_some P some = let l = some.1 in let h = some.2 in omega arith

-- a condition that all before and one more make
both_more : (P : ℕ → Type 0) (j : ℕ) (New Old : Type 0) → 1 ≤ j → (New ↔ (Old × P j)) → (Old ↔ ((i : ℕ) → 1 ≤ i → i < j → P i)) → New ↔ ((i : ℕ) → 1 ≤ i → i < j + 1 → P i)
both_more P j New Old from made before = (
  λ new. all_more P j (before.0 (made.0 new).0) (made.0 new).1,
  λ all. made.1 (before.1 (λ i l h. all i l (omega (arith, h))), all j from (omega arith)),
)

either_more : (P : ℕ → Type 0) (j : ℕ) (New Old : Type 0) → 1 ≤ j → (New ↔ (Old ⊎ P j)) → (Old ↔ SomeBefore P j) → New ↔ SomeBefore P (j + 1)
either_more P j New Old from made before = (forth, back)
  where
    forth : New → SomeBefore P (j + 1)
    forth new = some_more P j from (elim (made.0 new) [
      | inl old ↦ inl (before.0 old)
      | inr here ↦ inr here
    ])

    back : SomeBefore P (j + 1) → New
    back some = made.1 (elim (some_cases P j some) [
      | inl earlier ↦ inl (before.1 earlier)
      | inr here ↦ inr here
    ])

module _ (says : ℕ → CertificateHosts) where
  more_before : (j : ℕ) → 1 ≤ j → bases_before says (j + 1) ≡ bases_before says j + bases_in (says j)
  unfolding bases_before
  more_before zero from = absurd (omega (arith, from))
  more_before (suc k) from = ap (λ n. bases_before says n) {x = suc k + 1} {y = suc (suc k)} (omega arith)

  -- before the first certificate nothing is constrained
  pub none_is_left : AreLeftBy says 1 no_constraints
  unfolding bases_before
  none_is_left = record {
    mail = λ name. (λ p i l h. absurd (omega (arith, l, h)), λ all. tt);
    hosts = λ host. (λ p i l h. absurd (omega (arith, l, h)), λ all. tt);
    excluded_mail = λ name. (
      λ has. absurd (in_none (λ base. IsAmongMail name base) has),
      λ some. absurd (not_some (λ i. HasMail (says i).excluded_mail name) some),
    );
    excluded_hosts = λ host. (
      λ has. absurd (in_none (λ base. IsAmongHosts host base) has),
      λ some. absurd (not_some (λ i. HasHost (says i).excluded_hosts host) some),
    );
    constrains_mail = (
      λ t. absurd (false≢true t),
      λ some. absurd (not_some (λ i. ConstrainsMail (says i)) some),
    );
    constrains_uris = (
      λ t. absurd (false≢true t),
      λ some. absurd (not_some (λ i. ConstrainsUris (says i)) some),
    );
    few = omega arith;
  }

  -- what a certificate narrows is left by it too
  pub narrowed_is_left : (j : ℕ) (old new : HostConstraints) → 1 ≤ j → AreLeftBy says j old → Narrows (says j) old new → AreLeftBy says (j + 1) new
  narrowed_is_left j old new from before made = record {
    mail = λ name. both_more (λ i. PermitsMail (says i) name) j (PermitsMailIn new.mail name) (PermitsMailIn old.mail name) from (made.mail name) (before.mail name);
    hosts = λ host. both_more (λ i. PermitsHost (says i) host) j (PermitsHostIn new.hosts host) (PermitsHostIn old.hosts host) from (made.hosts host) (before.hosts host);
    excluded_mail = λ name. either_more (λ i. HasMail (says i).excluded_mail name) j (HasMail new.excluded_mail name) (HasMail old.excluded_mail name) from (made.excluded_mail name) (before.excluded_mail name);
    excluded_hosts = λ host. either_more (λ i. HasHost (says i).excluded_hosts host) j (HasHost new.excluded_hosts host) (HasHost old.excluded_hosts host) from (made.excluded_hosts host) (before.excluded_hosts host);
    constrains_mail = either_more (λ i. ConstrainsMail (says i)) j (new.constrains_mail ≡ true) (old.constrains_mail ≡ true) from made.constrains_mail before.constrains_mail;
    constrains_uris = either_more (λ i. ConstrainsUris (says i)) j (new.constrains_uris ≡ true) (old.constrains_uris ≡ true) from made.constrains_uris before.constrains_uris;
    few = let few = made.few in let was = before.few in let more = more_before j from in omega arith;
  }

  module _ (j : ℕ) (held : HostConstraints) (left : AreLeftBy says j held) where
    -- what the constraints ask of certificate j is what the certificates before it ask
    pub permit_exactly : Permit held (says j) ↔ HostsArePermitted says j
    permit_exactly = (forth, back)
      where
        forth : Permit held (says j) → HostsArePermitted says j
        forth p i l h = record {
          mail = λ name within. (left.mail name).0 (p.mail (Some name) within) i l h;
          hosts = λ host within. (left.hosts host).0 (p.hosts (Some host) within) i l h;
        }

        mailbox : HostsArePermitted says j → (found : Option MailText) → Contains (says j).mail found → PermitsFoundIn IsAmongMail held.mail found
        mailbox p None within = tt
        mailbox p (Some name) within = (left.mail name).1 (λ i l h. (p i l h).mail name within)

        host : HostsArePermitted says j → (found : Option (List ℕ)) → Contains (says j).hosts found → PermitsFoundIn IsAmongHosts held.hosts found
        host p None within = tt
        host p (Some name) within = (left.hosts name).1 (λ i l h. (p i l h).hosts name within)

        back : HostsArePermitted says j → Permit held (says j)
        back p = record { mail = mailbox p; hosts = host p }

    pub exclude_exactly : DoNotExclude held (says j) ↔ HostsAreNotExcluded says j
    exclude_exactly = (forth, back)
      where
        forth : DoNotExclude held (says j) → HostsAreNotExcluded says j
        forth d i l h = record {
          mail = λ name within has. d.mail (Some name) within ((left.excluded_mail name).1 (i, l, h, has));
          hosts = λ host within has. d.hosts (Some host) within ((left.excluded_hosts host).1 (i, l, h, has));
        }

        mailbox : HostsAreNotExcluded says j → (found : Option MailText) → Contains (says j).mail found → ¬ HasFound IsAmongMail held.excluded_mail found
        mailbox n None within never = never
        mailbox n (Some name) within has = let some = (left.excluded_mail name).0 has in (n some.0 some.1 some.2).mail name within some.3

        host : HostsAreNotExcluded says j → (found : Option (List ℕ)) → Contains (says j).hosts found → ¬ HasFound IsAmongHosts held.excluded_hosts found
        host n None within never = never
        host n (Some name) within has = let some = (left.excluded_hosts name).0 has in (n some.0 some.1 some.2).hosts name within some.3

        back : HostsAreNotExcluded says j → DoNotExclude held (says j)
        back n = record { mail = mailbox n; hosts = host n }

    pub find_hosts_exactly : FindHosts held (says j) ↔ UrisHaveHosts says j
    find_hosts_exactly = (
      λ f i l h. record {
        mail = λ constrains within. f.mail (left.constrains_mail.1 (i, l, h, constrains)) within;
        uris = λ constrains within. f.uris (left.constrains_uris.1 (i, l, h, constrains)) within;
      },
      λ u. record {
        mail = λ t within. let some = left.constrains_mail.0 t in (u some.0 some.1 some.2).mail some.3 within;
        uris = λ t within. let some = left.constrains_uris.0 t in (u some.0 some.1 some.2).uris some.3 within;
      },
    )

    -- the same of the answers of the tests
    pub permits_exactly : (answer : Bool) → IsTrue answer ↔ Permit held (says j) → IsTrue answer ↔ HostsArePermitted says j
    permits_exactly answer is = (λ t. permit_exactly.0 (is.0 t), λ p. is.1 (permit_exactly.1 p))

    pub excludes_none_exactly : (answer : Bool) → IsTrue answer ↔ DoNotExclude held (says j) → IsTrue answer ↔ HostsAreNotExcluded says j
    excludes_none_exactly answer is = (λ t. exclude_exactly.0 (is.0 t), λ n. is.1 (exclude_exactly.1 n))

    pub finds_hosts_exactly : (answer : Bool) → IsTrue answer ↔ FindHosts held (says j) → IsTrue answer ↔ UrisHaveHosts says j
    finds_hosts_exactly answer is = (λ t. find_hosts_exactly.0 (is.0 t), λ u. is.1 (find_hosts_exactly.1 u))

-- what one certificate alone leaves, it asks of another

pair : CertificateHosts → CertificateHosts → ℕ → CertificateHosts
pair above c zero = above
pair above c (suc zero) = above
pair above c (suc (suc n)) = c

module _ (above c : CertificateHosts) (held : HostConstraints) (made : Narrows above no_constraints held) where
  left_alone : AreLeftBy (pair above c) 2 held
  unfolding pair
  left_alone = narrowed_is_left (pair above c) 1 no_constraints held (omega arith) (none_is_left (pair above c)) made

  one_before : (P : ℕ → Type 0) → P 1 → (i : ℕ) → 1 ≤ i → i < 2 → P i
  one_before P first i l h = (let same : 1 ≡ i = omega (arith, l, h) in subst P same first)

  pub permit_alone : Permit held c ↔ PermitHosts above c
  unfolding pair
  permit_alone =
      let exactly = permit_exactly (pair above c) 2 held left_alone in (
        λ p. exactly.0 p 1 (omega arith) (omega arith),
        λ p. exactly.1 (one_before (λ i. PermitHosts (pair above c i) c) p),
      )

  pub exclude_alone : DoNotExclude held c ↔ ExcludeNoHost above c
  unfolding pair
  exclude_alone =
      let exactly = exclude_exactly (pair above c) 2 held left_alone in (
        λ d. exactly.0 d 1 (omega arith) (omega arith),
        λ n. exactly.1 (one_before (λ i. ExcludeNoHost (pair above c i) c) n),
      )

  pub find_hosts_alone : FindHosts held c ↔ HaveHosts above c
  unfolding pair
  find_hosts_alone =
      let exactly = find_hosts_exactly (pair above c) 2 held left_alone in (
        λ f. exactly.0 f 1 (omega arith) (omega arith),
        λ u. exactly.1 (one_before (λ i. HaveHosts (pair above c i) c) u),
      )
