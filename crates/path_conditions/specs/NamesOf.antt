-- The names of a certificate that name constraints are about (RFC 5280, 4.2.1.10 and 6.1.3 (b), (c)), and what the constraints
-- of another certificate say of a name.
use Rattle.std.specs.Prelude.{◌≡◌, ◌⊎◌, ℕ, List, [], ◌∷◌, ◌++◌, Any, Contains}
use Rattle.names.specs.declared.general.Form.{Form}
use Rattle.names.specs.declared.general.Form.TheVariants as F
use Rattle.names.specs.DistinguishedName.{RdnMap, HasKind}
use Rattle.names.specs.GeneralName.{IsProcessed}
use Rattle.names.specs.GeneralLayout.{NameContents, GeneralName, SubtreeBase, directory_name}
use Rattle.names.specs.GeneralCoverage.{form_of_general_name, form_of_base, LiesInSubtree}
use Rattle.cert.specs.Certificate.{Certificate}
use Rattle.cert.specs.NameConstraints.{NameConstraints}

-- a subject is a directory name where it is not empty
abbrev pub subject_names : NameContents → List RdnMap → List GeneralName
subject_names subject [] = []
subject_names subject (rdn ∷ rdns) = directory_name subject ∷ []

-- the subject and the alternative names
abbrev pub names_of : Certificate → List GeneralName
names_of c = subject_names c.subject c.subject.rdns ++ c.extensions.alternative_names

-- id-emailAddress (RFC 5280, 4.1.2.6): 1.2.840.113549.1.9.1
abbrev pub email_address : List ℕ
email_address = 0x2A ∷ 0x86 ∷ 0x48 ∷ 0x86 ∷ 0xF7 ∷ 0x0D ∷ 0x01 ∷ 0x09 ∷ 0x01 ∷ []

-- The certificate bears a name of the form with this number: an alternative name, or an emailAddress in its subject, which
-- counts as an rfc822Name [1].
abbrev pub BearsForm : Certificate → ℕ → Type 0
BearsForm c number =
    Any (λ name. form_of_general_name name ≡ F.Other number) c.extensions.alternative_names
    ⊎ ((number ≡ 1) × HasKind email_address c.subject.rdns)

-- some of the subtrees are about names of the form
abbrev pub AreAbout : List SubtreeBase → Form → Type 0
AreAbout bases form = Any (λ base. form_of_base base ≡ form) bases

-- the name lies in one of the subtrees
abbrev pub IsInOneOf : List SubtreeBase → GeneralName → Type 0
IsInOneOf bases name = Any (λ base. LiesInSubtree name base) bases

-- where there are permitted subtrees for the form of the name, it lies in one of them
abbrev pub Permits : NameConstraints → GeneralName → Type 0
Permits constraints name = AreAbout constraints.permitted (form_of_general_name name) → IsInOneOf constraints.permitted name

-- the name lies in an excluded subtree
abbrev pub Excludes : NameConstraints → GeneralName → Type 0
Excludes constraints name = IsInOneOf constraints.excluded name

-- there is a subtree for names of the form
abbrev pub Constrains : NameConstraints → Form → Type 0
Constrains constraints form = AreAbout constraints.permitted form ⊎ AreAbout constraints.excluded form

-- The constraints permit each name of a processed form of a certificate (6.1.3 (b)), exclude none of its names (6.1.3 (c)), and constrain no
-- form that is not processed and that a name has (4.2.1.10).
abbrev pub PermitsNamesOf : NameConstraints → Certificate → Type 0
PermitsNamesOf constraints c =
    (name : GeneralName) → Contains (names_of c) name → IsProcessed (form_of_general_name name) → Permits constraints name

abbrev pub ExcludesNoNameOf : NameConstraints → Certificate → Type 0
ExcludesNoNameOf constraints c = (name : GeneralName) → Contains (names_of c) name → ¬ Excludes constraints name

abbrev pub ConstrainsNoFormOf : NameConstraints → Certificate → Type 0
ConstrainsNoFormOf constraints c = (number : ℕ) → BearsForm c number → ¬ Constrains constraints (F.Other number)
