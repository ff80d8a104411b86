-- The octets are the encodings of these values.
use Rattle.std.proofs.Common.{ℕ, List, [], ◌∷◌, codes, drop, refl}
use Rattle.asn.specs.Part.{IsWhole}
use Rattle.asn.specs.Value.{Value, Values, primitive, constructed, none, more}
use Rattle.asn.proofs.Laws.{encodes}
use Rattle.test_premises.specs.Octets.{octets, anchor_der, anchor_signature, target_der, target_signature, list_1, list_2, response_der, basic_response_der}
use Rattle.test_premises.proofs.Encodable.{encodable_if}

abbrev values : List Value → Values
values [] = none
values (value ∷ others) = more value (values others)

abbrev sequence : List Value → Value
sequence members = constructed 0x30 (values members)

abbrev explicit : ℕ → Value → Value
explicit identifier inside = constructed identifier (values (inside ∷ []))

abbrev oid : List ℕ → Value
oid contents = primitive 0x06 contents

abbrev integer : ℕ → Value
integer octet = primitive 0x02 (octet ∷ [])

abbrev utc : List ℕ → Value
utc text = primitive 0x17 text

abbrev generalized : List ℕ → Value
generalized text = primitive 0x18 text

abbrev bits : List ℕ → Value
bits contents = primitive 0x03 contents

abbrev octet_string : List ℕ → Value
octet_string contents = primitive 0x04 contents

abbrev name : ℕ → Value
name letter = sequence (explicit 0x31 (sequence (oid (0x55 ∷ 0x04 ∷ 0x03 ∷ []) ∷ primitive 0x13 (letter ∷ []) ∷ [])) ∷ [])

abbrev algorithm : Value
algorithm = sequence (oid (0x2A ∷ 0x03 ∷ []) ∷ [])

abbrev key_info : ℕ → Value
key_info letter = sequence (algorithm ∷ bits (0 ∷ letter ∷ []) ∷ [])

abbrev signed : Value → List ℕ → Value
signed part signature = sequence (part ∷ algorithm ∷ bits (0 ∷ signature) ∷ [])

-- the components of a certificate of that subject up to its key
abbrev components : ℕ → List Value → List Value
components subject others =
    explicit 0xA0 (integer 2) ∷ integer 5 ∷ algorithm ∷ name 82 ∷ sequence (utc (codes "250101000000Z") ∷ utc (codes "260101000000Z") ∷ [])
    ∷ name subject ∷ key_info subject ∷ others

-- the value of basicConstraints with cA
abbrev ca : Value
ca = sequence (primitive 0x01 (0xFF ∷ []) ∷ [])

abbrev pub ca_octets : List ℕ
ca_octets = 0x30 ∷ 0x03 ∷ 0x01 ∷ 0x01 ∷ 0xFF ∷ []

abbrev basic_constraints : Value
basic_constraints = sequence (oid (0x55 ∷ 0x1D ∷ 0x13 ∷ []) ∷ primitive 0x01 (0xFF ∷ []) ∷ octet_string ca_octets ∷ [])

abbrev anchor_tree : Value
anchor_tree = signed (sequence (components 82 (explicit 0xA3 (sequence (basic_constraints ∷ [])) ∷ []))) (drop 3 anchor_signature)

abbrev target_tree : Value
target_tree = signed (sequence (components 84 [])) (drop 3 target_signature)

abbrev list_tree : ℕ → List ℕ → Value
list_tree number signature =
    signed (sequence (
    integer 1 ∷ algorithm ∷ name 82 ∷ utc (codes "250601000000Z") ∷ utc (codes "250701000000Z")
    ∷ explicit 0xA0 (sequence (sequence (oid (0x55 ∷ 0x1D ∷ 0x14 ∷ []) ∷ octet_string (0x02 ∷ 0x01 ∷ number ∷ []) ∷ []) ∷ []))
    ∷ []))
    signature

abbrev certificate_id : Value
certificate_id = sequence (
    sequence (oid (0x2B ∷ 0x0E ∷ 0x03 ∷ 0x02 ∷ 0x1A ∷ []) ∷ [])
    ∷ octet_string (octets (codes "8bf669e5210589581d1572ea6afb7a1bbca5e49b"))
    ∷ octet_string (octets (codes "06576556d1ad802f247cad11ae748be47b70cd9c"))
    ∷ integer 5
    ∷ [])

abbrev basic_tree : Value
basic_tree =
    signed (sequence (
    explicit 0xA1 (name 82)
    ∷ generalized (codes "20250601000000Z")
    ∷ sequence (sequence (certificate_id ∷ primitive 0x80 [] ∷ generalized (codes "20250601000000Z") ∷ explicit 0xA0 (generalized (codes "20250701000000Z")) ∷ []) ∷ [])
    ∷ []))
    (octets (codes "dc07faaf772eec913d5ce8cf4e7a3b420bd362857c5084ff100e92076100decd"))

abbrev response_tree : Value
response_tree = sequence (
    primitive 0x0A (0 ∷ [])
    ∷ explicit 0xA0 (sequence (oid (0x2B ∷ 0x06 ∷ 0x01 ∷ 0x05 ∷ 0x05 ∷ 0x07 ∷ 0x30 ∷ 0x01 ∷ 0x01 ∷ []) ∷ octet_string basic_response_der ∷ []))
    ∷ [])

pub ca_whole : IsWhole ca_octets
ca_whole = (ca, encodes ca 1 (encodable_if ca 1 refl))

pub anchor_whole : IsWhole anchor_der
anchor_whole = (anchor_tree, encodes anchor_tree 1 (encodable_if anchor_tree 1 refl))

pub target_whole : IsWhole target_der
target_whole = (target_tree, encodes target_tree 1 (encodable_if target_tree 1 refl))

list_1_tree : Value
list_1_tree = list_tree 1 (octets (codes "d807a77257f6c8efced4f67a16940296ac888cc3a527192efe1005a225245859"))

pub list_1_whole : IsWhole list_1
unfolding list_1_tree
list_1_whole = (list_1_tree, encodes list_1_tree 1 (encodable_if list_1_tree 1 refl))

list_2_tree : Value
list_2_tree = list_tree 2 (octets (codes "32dd0e272ca32c599cf0c698d1766f5735feae1ba75974c4707914c76734a7fd"))

pub list_2_whole : IsWhole list_2
unfolding list_2_tree
list_2_whole = (list_2_tree, encodes list_2_tree 1 (encodable_if list_2_tree 1 refl))

pub basic_whole : IsWhole basic_response_der
basic_whole = (basic_tree, encodes basic_tree 1 (encodable_if basic_tree 1 refl))

pub response_whole : IsWhole response_der
response_whole = (response_tree, encodes response_tree 1 (encodable_if response_tree 1 refl))
