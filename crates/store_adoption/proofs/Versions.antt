-- The row of the version tells one version, and one profile.
use Rattle.std.proofs.Common.{◌≡◌, ◌≢◌, ◌<◌, ℕ, List, [], ◌∷◌, Option, Some, None, length, refl, sym, ap, ◌∙◌, arith}
use Rattle.sqlite.specs.Order.{Row}
use Rattle.statements_facts.specs.declared.profile.Profile.{Profile}
use Rattle.statements_facts.specs.declared.profile.Profile.TheVariants.{Stated, Wide}
use Rattle.store_rows.specs.Contents.{version_number}
use Rattle.store_adoption.specs.Cells.{AreRowsOfVersion, AreVersionRows, IsVersionCells}

pub one_version : (one other : ℕ) (rows : List Row) → AreRowsOfVersion (Some one) rows → AreRowsOfVersion (Some other) rows → one ≡ other
one_version one other [] a b = absurd (let none = a.1 in omega (arith, none))
one_version one other (row ∷ rows) a b = let first = a.0.0.1 in let second = b.0.0.1 in cc

-- rows that are not of this version
pub no_version : (version : Option ℕ) (wanted : ℕ) (rows : List Row) → AreRowsOfVersion version rows → version ≢ Some wanted → AreRowsOfVersion (Some wanted) rows → ⊥
no_version None wanted rows none apart are = let one = are.1 in let empty = ap length none in omega (arith, one, empty)
no_version (Some version) wanted rows has apart are = apart (ap (λ v. Some v) (one_version version wanted rows has are))

few_versions : (profile : Profile) → version_number profile < 4
few_versions Stated = omega arith
few_versions Wide = omega arith

pub rows_of_profile : (profile : Profile) (rows : List Row) → AreRowsOfVersion (Some (version_number profile)) rows → AreVersionRows rows
rows_of_profile profile rows are = (version_number profile, few_versions profile, are)

pub no_profile : (version : Option ℕ) (rows : List Row) → AreRowsOfVersion version rows → ((profile : Profile) → version ≢ Some (version_number profile))
    → (profile : Profile) → AreRowsOfVersion (Some (version_number profile)) rows → ⊥
no_profile version rows has apart profile are = no_version version (version_number profile) rows has (apart profile) are
