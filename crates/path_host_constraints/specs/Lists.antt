-- Lists of bases as they are narrowed and joined from certificate to certificate (RFC 5280, 6.1.4 (g)), of either form. `Among` says
-- which names lie in a base, and `Inside` which bases lie in another.
use Rattle.std.specs.Prelude.{◌≡◌, ◌⊎◌, ℕ, List, [], ◌∷◌, ◌++◌, Option, None, Some, Any, Contains, length}

-- a name is among those of one of the bases
abbrev pub Has : {X B : Type 0} → (X → B → Type 0) → List B → X → Type 0
Has Among bases x = Any (λ base. Among x base) bases

-- a base is inside one of the bases
abbrev pub Holds : {B : Type 0} → (B → B → Type 0) → List B → B → Type 0
Holds Inside bases base = Any (λ other. Inside base other) bases

-- Of a list those are selected that are inside one of some bases, except some whose names lie in other bases.
pub record Selects {X B : Type 0} (Among : X → B → Type 0) (Inside : B → B → Type 0) (within except list selected : List B) : Type 0 where
  pub sound : (x : X) → Has Among selected x → Any (λ base. Holds Inside within base × Among x base) list
  pub complete : (x : X) → Any (λ base. Holds Inside within base × Among x base) list → Has Among selected x ⊎ Has Among except x

-- one more base is selected if it is inside one of the first bases, unless it is in one of the others
abbrev pub TakesIf : {B : Type 0} → (B → B → Type 0) → List B → List B → B → List B → List B → Type 0
TakesIf Inside within except base old new =
    (Holds Inside within base × (new ≡ old ++ base ∷ [])) ⊎ ((Holds Inside within base → Holds Inside except base) × (new ≡ old))

-- the bases of all lists
abbrev pub members_of : {B : Type 0} → List (List B) → List B
members_of [] = []
members_of (list ∷ lists) = list ++ members_of lists

-- no list permits every name
abbrev pub PermitsIn : {X B : Type 0} → (X → B → Type 0) → Option (List B) → X → Type 0
PermitsIn Among None x = Unit {0}
PermitsIn Among (Some list) x = Has Among list x

-- of names, those that are there: each is permitted
abbrev pub PermitsFoundIn : {X B : Type 0} → (X → B → Type 0) → Option (List B) → Option X → Type 0
PermitsFoundIn Among list None = Unit {0}
PermitsFoundIn Among list (Some x) = PermitsIn Among list x

abbrev pub PermitsAllIn : {X B : Type 0} → (X → B → Type 0) → Option (List B) → List (Option X) → Type 0
PermitsAllIn {X = X} Among list names = (found : Option X) → Contains names found → PermitsFoundIn Among list found

-- and none is excluded
abbrev pub HasFound : {X B : Type 0} → (X → B → Type 0) → List B → Option X → Type 0
HasFound Among bases None = ⊥
HasFound Among bases (Some x) = Has Among bases x

abbrev pub HasNone : {X B : Type 0} → (X → B → Type 0) → List B → List (Option X) → Type 0
HasNone {X = X} Among bases names = (found : Option X) → Contains names found → ¬ HasFound Among bases found

-- all of them are there
abbrev pub HasEach : {X : Type 0} → List (Option X) → Type 0
HasEach names = ¬ Contains names None

-- what is left of a list: a new one, or the list itself where there is none
abbrev pub left_of : {L : Type 0} → L → Option L → L
left_of held None = held
left_of held (Some list) = list

-- the list behind a certificate: a new one, or the old one where there is none
abbrev pub changed : {L : Type 0} → Option L → Option L → Option L
changed old None = old
changed old (Some list) = Some list

-- how many bases a list has
abbrev pub size_of : {B : Type 0} → Option (List B) → ℕ
size_of None = 0
size_of (Some list) = length list
