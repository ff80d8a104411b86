-- What is true of each validation under way: how the fields of the code stand for the certificates that have passed.
use Rattle.std.specs.Prelude.{◌≡◌, ◌↔◌, ◌+◌, ◌-◌, ◌<◌, ◌≤◌, ℕ, List, Bool, true, Option, Some, None, min, if◌then◌else◌}
use Rattle.names.specs.declared.general.Form.{Form}
use Rattle.names.specs.declared.general.Form.TheVariants as F
use Rattle.names.specs.GeneralLayout.{NameContents, GeneralName, SubtreeBase}
use Rattle.names.specs.GeneralCoverage.{form_of_general_name}
use Rattle.path_conditions.specs.declared.form_set.FormSet.{FormSet}
use Rattle.path.specs.Query.{Query, count, certificate_numbered}
use Rattle.path_conditions.specs.NamesOf.{IsInOneOf, Constrains}
use Rattle.path_host_constraints.specs.HostConstraints.{AreLeftBy}
use Rattle.path.specs.Conditions.{constraints_at, hosts_at, others_between}
use Rattle.path_conditions.specs.CertificateConditions.{path_length_of}
use Rattle.path_conditions.specs.Constraints.{Constraints, PermitsIn, subtree_count, has_number}
use Rattle.path.specs.State.{IsPermitted, IsExcluded, subtrees_up_to}

-- The room at certificate k under the path lengths of certificates 1 to m: how many more may follow that are not self-issued.
-- No path length is passed, and one would be.
pub record IsRoom (q : Query) (m k room : ℕ) : Type 0 where
  pub within : (i most : ℕ) → 1 ≤ i → i ≤ m → path_length_of (certificate_numbered q i) ≡ Some most → room + others_between q i k ≤ most
  pub attained : (i : ℕ) × (most : ℕ) × (1 ≤ i) × (i ≤ m) × (path_length_of (certificate_numbered q i) ≡ Some most) × (room + others_between q i k ≡ most)

-- no room is told where no certificate has a path length
abbrev pub RoomIs : Query → ℕ → ℕ → Option ℕ → Type 0
RoomIs q m k None = (i : ℕ) → 1 ≤ i → i ≤ m → path_length_of (certificate_numbered q i) ≡ None
RoomIs q m k (Some room) = IsRoom q m k room

-- the room behind a certificate, without its own path length (6.1.4 (l))
abbrev pub spent : Option ℕ → Bool → Option ℕ
spent None self_issued = None
spent (Some room) self_issued = Some (if self_issued then room else room - 1)

-- the lesser of two path lengths (6.1.4 (m))
abbrev pub lesser : Option ℕ → Option ℕ → Option ℕ
lesser room None = room
lesser None (Some most) = Some most
lesser (Some room) (Some most) = Some (min room most)

-- the list of a form permits exactly what the certificates up to k permit
abbrev pub ListIs : Query → ℕ → Form → Option (List SubtreeBase) → Type 0
ListIs q k form list = (name : GeneralName) → form_of_general_name name ≡ form → (PermitsIn list name ↔ IsPermitted q k name)

-- a certificate up to k constrains the form with the number
abbrev pub IsConstrained : Query → ℕ → ℕ → Type 0
IsConstrained q k number = (i : ℕ) × (1 ≤ i) × (i ≤ k) × Constrains (constraints_at q i) (F.Other number)

pub record Represents (q : Query) (k : ℕ) (issuer : NameContents) (key : List ℕ) (room : Option ℕ) (held : Constraints) (forms : FormSet) : Type 0 where
  pub within : k ≤ count q
  pub few : k ≤ 128
  pub issuer_is : issuer ≡ (certificate_numbered q k).subject
  pub key_is : key ≡ (certificate_numbered q k).key_info.value.octets
  pub room_is : k < count q → RoomIs q k k room
  pub directory_is : ListIs q k F.Directory held.directory
  pub dns_is : ListIs q k F.Dns held.dns
  pub ip_is : ListIs q k F.Ip held.ip
  pub excluded_is : (name : GeneralName) → (IsInOneOf held.excluded name ↔ IsExcluded q k name)
  pub forms_are : (number : ℕ) → ((has_number forms number ≡ true) ↔ IsConstrained q k number)
  pub hosts_are : AreLeftBy (hosts_at q) (k + 1) held.hosts
  pub bound : subtree_count held ≤ subtrees_up_to q k
