-- Certificates, revocation lists and a response, octet by octet. Keys and signatures are those of tests.
use Rattle.std.specs.Prelude.{ℕ, ◌-◌, ◌*◌, ◌+◌, nat_lt, List, [], ◌∷◌, ◌++◌, codes, if◌then◌else◌}

-- what a hexadecimal digit counts, in small letters
abbrev pub digit : ℕ → ℕ
digit code = if nat_lt code 58 then code - 48 else code - 87

-- the octets that pairs of digits spell
abbrev pub octets : List ℕ → List ℕ
octets [] = []
octets (high ∷ []) = []
octets (high ∷ low ∷ digits) = (digit high * 16 + digit low) ∷ octets digits

-- names of one common name, R and T
abbrev pub name_r : List ℕ
name_r = octets (codes "300c310a30080603550403130152")

abbrev pub name_t : List ℕ
name_t = octets (codes "300c310a30080603550403130154")

-- the algorithm 1.2.3, and keys of it
abbrev pub algorithm : List ℕ
algorithm = octets (codes "300406022a03")

abbrev pub key_r : List ℕ
key_r = octets (codes "300a300406022a0303020052")

abbrev pub key_t : List ℕ
key_t = octets (codes "300a300406022a0303020054")

-- from 2025-01-01 until 2026-01-01
abbrev pub year : List ℕ
year = octets (codes "301e170d3235303130313030303030305a170d3236303130313030303030305a")

-- The certificate of the authority R, its own issuer: version 3, serial number 05, basicConstraints with cA.
abbrev pub anchor_tbs : List ℕ
anchor_tbs =
    octets (codes "306b")
    ++ octets (codes "a003020102020105")
    ++ algorithm
    ++ name_r
    ++ year
    ++ name_r
    ++ key_r
    ++ octets (codes "a3133011300f0603551d130101ff040530030101ff")

abbrev pub anchor_signature : List ℕ
anchor_signature = octets (codes "032100454e02142f1b8e0a28ffede853e53e0436560b089f12ed112d621f232170559d")

abbrev pub anchor_der : List ℕ
anchor_der =
    octets (codes "308196")
    ++ anchor_tbs
    ++ algorithm
    ++ anchor_signature

-- A certificate of T, issued by R: the same without extensions.
abbrev pub target_tbs : List ℕ
target_tbs =
    octets (codes "3056")
    ++ octets (codes "a003020102020105")
    ++ algorithm
    ++ name_r
    ++ year
    ++ name_t
    ++ key_t

abbrev pub target_signature : List ℕ
target_signature = octets (codes "03210010ac851285f2074fd03ef685e5928a13e6f7d27118ae38a2526dc5c613b1da9c")

abbrev pub target_der : List ℕ
target_der =
    octets (codes "308181")
    ++ target_tbs
    ++ algorithm
    ++ target_signature

-- Lists 1 and 2 of R, from 2025-06-01 until 2025-07-01, without entries.
abbrev pub list_1 : List ℕ
list_1 =
    octets (codes "30703045020101")
    ++ algorithm
    ++ name_r
    ++ octets (codes "170d3235303630313030303030305a170d3235303730313030303030305a")
    ++ octets (codes "a00e300c300a0603551d140403020101")
    ++ algorithm
    ++ octets (codes "032100d807a77257f6c8efced4f67a16940296ac888cc3a527192efe1005a225245859")

abbrev pub list_2 : List ℕ
list_2 =
    octets (codes "30703045020101")
    ++ algorithm
    ++ name_r
    ++ octets (codes "170d3235303630313030303030305a170d3235303730313030303030305a")
    ++ octets (codes "a00e300c300a0603551d140403020102")
    ++ algorithm
    ++ octets (codes "03210032dd0e272ca32c599cf0c698d1766f5735feae1ba75974c4707914c76734a7fd")

-- A response of R, which says that the certificate with serial number 05 is good: its content, and the whole.
abbrev pub basic_response_der : List ℕ
basic_response_der =
    octets (codes "3081b1308185")
    ++ octets (codes "a10e")
    ++ name_r
    ++ octets (codes "180f32303235303630313030303030305a")
    ++ octets (codes "306230603038")
    ++ octets (codes "300706052b0e03021a")
    ++ octets (codes "04148bf669e5210589581d1572ea6afb7a1bbca5e49b")
    ++ octets (codes "041406576556d1ad802f247cad11ae748be47b70cd9c")
    ++ octets (codes "020105")
    ++ octets (codes "8000")
    ++ octets (codes "180f32303235303630313030303030305a")
    ++ octets (codes "a011180f32303235303730313030303030305a")
    ++ algorithm
    ++ octets (codes "032100dc07faaf772eec913d5ce8cf4e7a3b420bd362857c5084ff100e92076100decd")

abbrev pub response_der : List ℕ
response_der =
    octets (codes "3081cb0a0100a081c53081c206092b06010505073001010481b4")
    ++ basic_response_der
