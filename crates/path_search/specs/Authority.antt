-- What the code has at hand of an authority, and of the certificates below it.
use Rattle.std.specs.Prelude.{◌≡◌, ◌↔◌, ℕ, List, ◌∷◌, Bool, true, false, map, slice_index_or}
use Rattle.std.specs.Str.{bytes_eq}
use Rattle.names.specs.declared.general.Form.TheVariants as F
use Rattle.names.specs.GeneralName.{IsProcessed}
use Rattle.names.specs.GeneralLayout.{GeneralName}
use Rattle.names.specs.GeneralCoverage.{form_of_general_name}
use Rattle.cert.specs.Certificate.{Certificate, is_self_issued, seen_certificate}
use Rattle.path_host_constraints.specs.HostConstraints.{Narrows, no_constraints}
use Rattle.path_conditions.specs.declared.form_set.FormSet.{FormSet}
use Rattle.path_conditions.specs.NamesOf.{Permits, Excludes, Constrains}
use Rattle.path_conditions.specs.Narrowing.{is_in_one_of}
use Rattle.path_conditions.specs.Constraints.{Constraints, permits_name, has_number}
use Rattle.path_issuers.specs.Search.{certificates_at, path_down_to}
use Rattle.path.specs.Conditions.{ConstrainNoOtherForm, ExcludeNoName, PermitNames}
use Rattle.path_issuers.specs.Factors.{AdmitNames, AdmitNamesBelow, AllowsLength, Lacks}
use Rattle.path_search.specs.declared.tail.Tail as code
use Rattle.path_search.specs.declared.authority.NameCheck.{NameCheck}
use Rattle.path_search.specs.declared.authority.NameCheck.TheVariants as check

-- the certificates of a tail, in order down to its target
abbrev pub seen_tail : code.Tail → List Certificate
seen_tail tail = path_down_to (seen_certificate tail.target.now) (map seen_certificate tail.bag.now) tail.above.now

-- those above the target, in order upward
abbrev pub seen_above : code.Tail → List Certificate
seen_above tail = certificates_at (seen_certificate tail.target.now) (map seen_certificate tail.bag.now) tail.above.now

-- the certificate at a place of the bag; the target, if there is none
abbrev pub seen_at : code.Tail → ℕ → Certificate
seen_at tail place = slice_index_or (map seen_certificate tail.bag.now) place (seen_certificate tail.target.now)

-- that certificate has the octets
abbrev pub has_octets_at : code.Tail → List ℕ → ℕ → Bool
has_octets_at tail octets place = bytes_eq (seen_at tail place).octets octets

-- the certificate stands at the top of the tail
abbrev pub IsTop : code.Tail → Certificate → Type 0
IsTop tail c = (below : List Certificate) × (seen_tail tail ≡ c ∷ below)

-- the constraints and the forms that are held answer for those that a certificate carries
pub record AnswersFor (c : Certificate) (held : Constraints) (forms : FormSet) : Type 0 where
  pub permits :
      (name : GeneralName) → IsProcessed (form_of_general_name name)
      → ((permits_name held name ≡ true) ↔ Permits c.extensions.name_constraints name)
  pub excludes :
      (name : GeneralName) → ((is_in_one_of held.excluded name ≡ true) ↔ Excludes c.extensions.name_constraints name)
  pub constrains :
      (number : ℕ) → ((has_number forms number ≡ true) ↔ Constrains c.extensions.name_constraints (F.Other number))
  pub narrowed : Narrows c.hosts no_constraints held.hosts

-- the constraints let the names of the certificate pass, in this respect
abbrev pub AdmitNamesIn : NameCheck → Certificate → Certificate → Type 0
AdmitNamesIn check.Each above c = AdmitNames above c
AdmitNamesIn check.Permitted above c = PermitNames above c
AdmitNamesIn check.NotExcluded above c = ExcludeNoName above c
AdmitNamesIn check.Processed above c = ConstrainNoOtherForm above c

-- or the certificate is self-issued
abbrev pub AdmitNamesOfOther : NameCheck → Certificate → Certificate → Type 0
AdmitNamesOfOther check above c = is_self_issued c ≡ false → AdmitNamesIn check above c

-- the certificate fits above others that are in order down to a target: what it meets with them, besides that it issued the first
pub record FitsAbove (c : Certificate) (below : List Certificate) : Type 0 where
  pub different : Lacks c.octets below
  pub length : AllowsLength c below
  pub names : AdmitNamesBelow c below
