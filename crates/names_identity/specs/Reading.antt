-- What texts are read as.
use Rattle.std.specs.Prelude.{◌≡◌, ℕ, List}
use Rattle.names.specs.Ip.{IsIpAddress}
use Rattle.names_identity.specs.declared.fault.IdentityRule.{IdentityRule}
use Rattle.names_identity.specs.declared.fault.IdentityRule.TheVariants as R
use Rattle.names_identity.specs.Host.{IsHostFault, without_final_dot}
use Rattle.names_identity.specs.Identity.{ReferenceIdentity, host_identity, address_identity, mailbox_identity}
use Rattle.names_identity.specs.Mailbox.{IsMailbox}

-- the host that a text is, and why it is none
abbrev pub IsHostOf : List ℕ → ReferenceIdentity → Type 0
IsHostOf text identity = identity ≡ host_identity (without_final_dot text)

abbrev pub IsRefusedHost : List ℕ → IdentityRule → ℕ → Type 0
IsRefusedHost text rule at = IsHostFault (without_final_dot text) rule at

-- the address that octets are, and why they are none: they are neither 4 nor 16
abbrev pub IsAddressOf : List ℕ → ReferenceIdentity → Type 0
IsAddressOf octets identity = identity ≡ address_identity octets

abbrev pub IsAddressFault : List ℕ → IdentityRule → ℕ → Type 0
IsAddressFault octets R.Address at = (IsIpAddress octets → ⊥) × (at ≡ 0)
IsAddressFault octets _ at = ⊥

-- the mailbox that a text is
abbrev pub IsMailboxOf : List ℕ → ReferenceIdentity → Type 0
IsMailboxOf text (mailbox_identity local host) = IsMailbox text local host
IsMailboxOf text _ = ⊥
