-- Where a certificate's nameConstraints have bases on mail addresses and on URIs, in the order in which they stand (RFC 5280, 4.2.1.10).
use Rattle.std.specs.Prelude.{◌==◌, ℕ, Bool, true, false, List, [], ◌∷◌, ◌++◌, map, Option, Some, None, Result, Ok, if◌then◌else◌}
use Rattle.std.specs.Global.{Vec}
use Rattle.asn.specs.Place.{Place, seen_tlv, tag}
use Rattle.asn.specs.Members.{Members, members}
use Rattle.asn.specs.Outermost.{nested}
use Rattle.asn.specs.Walk.{◌>>=◌, is_a, optional, next_or, each}
use Rattle.cert.specs.declared.fault.CertFault.{CertFault}
use Rattle.cert.specs.declared.fault.CertRule.{CertRule}
use Rattle.cert.specs.declared.fault.CertRule.TheVariants.{ExtensionValue}
use Rattle.cert.specs.ExtensionValues.{ExtensionValues, read_if_there}
use Rattle.cert.specs.Fault.{as_der, GivesUnlessFull}
use Rattle.cert_hosts.specs.declared.base.Base as code
use Rattle.cert_hosts.specs.declared.base.Base.TheVariants as B

-- the base of a permitted (true) or an excluded subtree, of rfc822Names or of uniformResourceIdentifiers
pub data Base : Type 0 where
  mail_base : Bool → Place → Base
  host_base : Bool → Place → Base

abbrev pub seen_base : code.Base → Base
seen_base (B.Mail permitted value) = mail_base permitted (seen_tlv value)
seen_base (B.Host permitted value) = host_base permitted (seen_tlv value)

abbrev pub all_bases : Vec code.Base → List Base
all_bases found = map seen_base found.items

abbrev pub base_found : Bool → Place → List Base
base_found permitted base =
    if tag base == 0x81 then mail_base permitted base ∷ [] else (if tag base == 0x86 then host_base permitted base ∷ [] else [])

-- one more subtree: SEQUENCE { base GeneralName, .. }
unfoldable pub one_subtree : Bool → List Base → Place → Result (List Base) (CertRule × ℕ)
one_subtree permitted earlier value = do
  sequence ← is_a 0x30 ExtensionValue value
  base ← next_or ExtensionValue (members value)
  Ok (earlier ++ base_found permitted base.0)

-- GeneralSubtrees OPTIONAL under a tag
abbrev pub in_list : Bool → List Base → Option Place → Members → Result (List Base × Members) (CertRule × ℕ)
in_list permitted earlier None left = Ok (earlier, left)
in_list permitted earlier (Some list) left = each (one_subtree permitted) earlier (members list).values >>= λ found. Ok (found, left)

-- those that are permitted, under [0], or excluded, under [1]
unfoldable pub next_list : Bool → ℕ → List Base → Members → Result (List Base × Members) (CertRule × ℕ)
next_list permitted identifier earlier left =
    in_list permitted earlier (optional identifier left).0 (optional identifier left).1

-- nameConstraints (4.2.1.10)
unfoldable pub in_constraints : List Base → Place → Result (List Base) (CertRule × ℕ)
in_constraints earlier octet_string = do
  value ← as_der (nested octet_string)
  sequence ← is_a 0x30 ExtensionValue value
  permitted ← next_list true 0xA0 earlier (members value)
  excluded ← next_list false 0xA1 permitted.0 permitted.1
  Ok excluded.0

-- all of them, if there is the extension
unfoldable pub bases_in : ExtensionValues → Result (List Base) (CertRule × ℕ)
bases_in values = read_if_there [] (in_constraints []) values.name_constraints

-- what was found before and after a value, or several ones, were looked at
abbrev pub Finds : Vec code.Base → Vec code.Base → Result (Unit {0}) CertFault → (List Base → Place → Result (List Base) (CertRule × ℕ)) → Place → Type 0
Finds old new result walk value = GivesUnlessFull (λ _. all_bases new) result (walk (all_bases old) value)

abbrev pub FindsIn : Vec code.Base → Vec code.Base → Result (Unit {0}) CertFault → (List Base → Place → Result (List Base) (CertRule × ℕ)) → Members → Type 0
FindsIn old new result walk left = GivesUnlessFull (λ _. all_bases new) result (each walk (all_bases old) left.values)

-- the same of one list of subtrees, and what is left behind it
abbrev pub FindsNext : Vec code.Base → Vec code.Base → Result (Unit {0}) CertFault → (List Base → Members → Result (List Base × Members) (CertRule × ℕ)) → Members → Members → Type 0
FindsNext old new result walk before behind = GivesUnlessFull (λ _. (all_bases new, behind)) result (walk (all_bases old) before)
