-- Questions about a path whose certificates are read in a profile. The anchor is read alike in both: of it only the name and
-- the key are used (RFC 5280, 6.1.1 (d)), and no list speaks of it, so it has neither points nor hosts.
use Rattle.std.specs.Prelude.{◌≡◌, ◌⊎◌, ◌↔◌, ◌<◌, ◌+◌, ◌∷◌, ℕ, ℤ, List, [], length, map, slice_index_or, Option, Ok, IsOk}
use Rattle.std.specs.List.{AllZip}
use Rattle.statements_facts.specs.declared.profile.Profile.{Profile}
use Rattle.statements_facts.specs.declared.profile.Profile.TheVariants.{Stated, Wide}
use Rattle.cert.specs.declared.fault.CertFault.{CertFault}
use Rattle.cert.specs.declared.fault.CertFault.TheVariants.{Refused}
use Rattle.cert.specs.declared.fault.CertRule.{CertRule}
use Rattle.cert.specs.Certificate.{Certificate, certificate}
use Rattle.cert.specs.Fault.{FailsUnlessFull}
use Rattle.path.specs.InProfile.{certificate_in, IsWidened, IsWideFault}
use Rattle.path.specs.declared.options.Options.{Options}
use Rattle.path.specs.Options.{stated_options, wide_options}
use Rattle.path.specs.Query.{Query}
use Rattle.path.specs.Reading.{IsFirstRefused}

-- the texts are these certificates, one for one
abbrev pub AreReadIn : Profile → List (List ℕ) → List Certificate → Type 0
AreReadIn profile texts certificates = map (certificate_in profile) texts ≡ map Ok certificates

-- The question about these texts.
pub record IsQueryRead
    (options : Options)
    (anchor : List ℕ)
    (texts : List (List ℕ))
    (moment : ℤ)
    (purpose : Option (List ℕ))
    (query : Query) : Type 0 where
  pub anchor_is : certificate anchor ≡ Ok query.anchor
  pub path_is : AreReadIn options.profile texts query.certificates
  pub moment_is : query.moment ≡ moment
  pub purpose_is : query.purpose ≡ purpose
  pub options_is : query.options ≡ options

-- Text i of the path, from 0 on, is the first that is refused, and this is its fault; or memory ran out, and the texts before
-- it are certificates.
pub record IsPathRefused (profile : Profile) (texts : List (List ℕ)) (i : ℕ) (fault : CertFault) : Type 0 where
  pub within : i < length texts
  pub refused : FailsUnlessFull fault (certificate_in profile (slice_index_or texts i []))
  pub before : (k : ℕ) → k < i → IsOk (certificate_in profile (slice_index_or texts k []))

-- The certificate with the number is the first that is refused: the anchor, which is 0; or, if the anchor is read, one of the
-- path.
abbrev pub IsFirstRefusedIn : Profile → List ℕ → List (List ℕ) → ℕ → CertFault → Type 0
IsFirstRefusedIn profile anchor texts j fault =
    ((j ≡ 0) × FailsUnlessFull fault (certificate anchor))
    ⊎ ((i : ℕ) × (j ≡ i + 1) × IsOk (certificate anchor) × IsPathRefused profile texts i fault)

-- ---- laws: what the profiles have in common

-- texts are one question
abbrev pub QueryIsUnique : Options → Type 0
QueryIsUnique options =
    (anchor : List ℕ) (texts : List (List ℕ)) (moment : ℤ) (purpose : Option (List ℕ)) (one other : Query) →
    IsQueryRead options anchor texts moment purpose one →
    IsQueryRead options anchor texts moment purpose other → one ≡ other

-- In the stated profile a question is read, and refused, as Query::read has it.
abbrev pub StatedQueryIsAsRead : Type 0
StatedQueryIsAsRead =
    (anchor : List ℕ) (texts : List (List ℕ)) (moment : ℤ) (purpose : Option (List ℕ)) (query : Query) →
    IsQueryRead stated_options anchor texts moment purpose query
    ↔ ((certificate anchor ≡ Ok query.anchor)
    × (map certificate texts ≡ map Ok query.certificates)
    × (query.moment ≡ moment)
    × (query.purpose ≡ purpose)
    × (query.options ≡ stated_options))

abbrev pub StatedRefusalIsAsRead : Type 0
StatedRefusalIsAsRead =
    (anchor : List ℕ) (texts : List (List ℕ)) (j : ℕ) (fault : CertFault) →
    IsFirstRefusedIn Stated anchor texts j fault ↔ IsFirstRefused (anchor ∷ texts) j fault

-- the same question, in which each certificate of the path is as the wide profile takes it
pub record IsWidenedQuery (read taken : Query) : Type 0 where
  pub anchor : taken.anchor ≡ read.anchor
  pub certificates : AllZip IsWidened read.certificates taken.certificates
  pub moment : taken.moment ≡ read.moment
  pub purpose : taken.purpose ≡ read.purpose

-- What the wide profile reads is what the stated one reads, with points and hosts.
abbrev pub WideQueryIsStatedWidened : Type 0
WideQueryIsStatedWidened =
    (anchor : List ℕ) (texts : List (List ℕ)) (moment : ℤ) (purpose : Option (List ℕ)) (taken : Query) →
    IsQueryRead wide_options anchor texts moment purpose taken →
    (read : Query) × IsQueryRead stated_options anchor texts moment purpose read × IsWidenedQuery read taken

-- certificate j, from 1 on, is read in the stated profile, and the wide one refuses it for this fault
pub record IsRefusedInWide (texts : List (List ℕ)) (j : ℕ) (rule : CertRule) (at : ℕ) : Type 0 where
  pub index : ℕ
  pub number : j ≡ index + 1
  pub read : Certificate
  pub is_read : certificate (slice_index_or texts index []) ≡ Ok read
  pub refused : IsWideFault read (rule, at)

-- What the wide profile refuses, the stated one refuses at the same certificate for the same fault, if it is not for the
-- points or the hosts of the certificate.
abbrev pub WideRefusalIsStatedOrItsOwn : Type 0
WideRefusalIsStatedOrItsOwn =
    (anchor : List ℕ) (texts : List (List ℕ)) (j : ℕ) (rule : CertRule) (at : ℕ) →
    IsFirstRefusedIn Wide anchor texts j (Refused rule at) →
    IsFirstRefusedIn Stated anchor texts j (Refused rule at) ⊎ IsRefusedInWide texts j rule at

-- A question that the stated profile reads is refused in the wide one for points or hosts alone.
abbrev pub StatedQueryIsRefusedInWide : Type 0
StatedQueryIsRefusedInWide =
    (anchor : List ℕ) (texts : List (List ℕ)) (moment : ℤ) (purpose : Option (List ℕ)) (read : Query) (j : ℕ) (rule : CertRule) (at : ℕ) →
    IsQueryRead stated_options anchor texts moment purpose read →
    IsFirstRefusedIn Wide anchor texts j (Refused rule at) → IsRefusedInWide texts j rule at
