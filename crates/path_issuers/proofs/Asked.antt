-- The questions that are listed are those that a search may ask, in order.
use Rattle.std.proofs.Common.{◌≡◌, ◌≤◌, ◌+◌, ℕ, List, [], ◌∷◌, ◌++◌, length, get_or, arith, ap, refl, sym, ◌∙◌, subst, inl, inr}
use Rattle.std.specs.List.{AllPairs, Contains}
use Rattle.std.proofs.lemmas.List.Elements.{Contains-append_left, Contains-append_right, Contains-append_cases}
use Rattle.path_issuers.specs.Asking.{about_anchors, about_issued, joined_below, question_about}
use Rattle.path_issuers.specs.Naming.{IsNaming, IsUseful, anchors_naming, named_by}
use Rattle.path_issuers.specs.Questions.{AreSearchQuestions, IsAskedBefore, IsChainToTarget, IsSearchQuestion, IsThere, LeadsToTarget, IsNamedBy}
use Rattle.path_issuers.specs.Search.{Search}
use Rattle.path_issuers.specs.declared.asking.Sought.TheVariants.{AnchorsOf, IssuedBy}
use Rattle.path_issuers.specs.declared.naming.Naming.{Naming}
use Rattle.path_issuers.specs.declared.question.Issuer.{Issuer}
use Rattle.path_issuers.specs.declared.question.Issuer.TheVariants.{Anchor, Bag}
use Rattle.path_issuers.specs.declared.question.SearchQuestion.{SearchQuestion}
use Rattle.path_issuers.proofs.Joining.{among_joined, among_map, joined_has, map_has, pairs_append, pairs_joined, pairs_map}

not_before_itself : (issuer : Issuer) (below : ℕ) → IsAskedBefore (record { issuer = issuer; certificate = below }) (record { issuer = issuer; certificate = below }) → ⊥
not_before_itself (Anchor place) below (inl less) = omega (arith, less)
not_before_itself (Anchor place) below (inr same) = omega (arith, same.1)
not_before_itself (Bag place) below (inl less) = omega (arith, less)
not_before_itself (Bag place) below (inr same) = omega (arith, same.1)

module _ (s : Search) (naming : Naming) (is : IsNaming s naming) where
  abbrev anchored : List SearchQuestion
  anchored = joined_below (about_anchors naming) (length s.bag + 1)

  abbrev issued : List SearchQuestion
  issued = joined_below (about_issued naming) (length s.bag)

  -- each is one

  each_anchored : (question : SearchQuestion) → Contains anchored question → IsSearchQuestion s question
  each_anchored question among =
      let at = among_joined (about_anchors naming) (length s.bag + 1) question among in
      let below = at.0 in
      let one = among_map (question_about (AnchorsOf below)) (anchors_naming naming below) question at.2 in
      let anchor = one.0 in
      let found = is.anchors_only below anchor (omega (arith, at.1)) one.1 in
      subst (λ (q : SearchQuestion). IsSearchQuestion s q) one.2 record {
        there = is.anchors_within below anchor one.1;
        named = found.1;
        leads = is.leads below (omega (arith, at.1)) found.0;
      }

  each_issued : (question : SearchQuestion) → Contains issued question → IsSearchQuestion s question
  each_issued question among =
      let at = among_joined (about_issued naming) (length s.bag) question among in
      let place = at.0 in
      let one = among_map (question_about (IssuedBy place)) (named_by naming place) question at.2 in
      let below = one.0 in
      let found = is.named_only below place at.1 one.1 in
      let within = is.named_within below place one.1 in
      subst (λ (q : SearchQuestion). IsSearchQuestion s q) one.2 record {
        there = at.1;
        named = found.1;
        leads = is.leads below (omega (arith, within)) found.0;
      }

  -- none is missing

  useful_from : (place : ℕ) (below : List ℕ) → IsChainToTarget s place below → (place ≤ length s.bag) × IsUseful naming place
  useful_from place [] last = (omega (arith, last), subst (λ (p : ℕ). IsUseful naming p) (sym last) is.target)
  useful_from place (next ∷ below) chain =
      let rest = useful_from next below chain.2 in
      let there = chain.0 in
      (omega (arith, there), is.above next place rest.0 rest.1 there chain.1)

  among : (issuer : Issuer) (below : ℕ) → IsThere s issuer → IsNamedBy s below issuer → LeadsToTarget s below
      → Contains (anchored ++ issued) (record { issuer = issuer; certificate = below })
  among (Anchor anchor) below there named leads =
      let useful = useful_from below leads.0 leads.1 in
      let listed = is.anchors below anchor useful.0 useful.1 there named in
      Contains-append_left anchored issued _ (joined_has (about_anchors naming) (length s.bag + 1) below _ (omega (arith, useful.0))
      (map_has (question_about (AnchorsOf below)) (anchors_naming naming below) anchor listed))
  among (Bag place) below there named leads =
      let useful = useful_from below leads.0 leads.1 in
      let listed = is.named below place useful.0 useful.1 there named in
      Contains-append_right anchored issued _ (joined_has (about_issued naming) (length s.bag) place _ there
      (map_has (question_about (IssuedBy place)) (named_by naming place) below listed))

  -- they are in order

  anchored_pairs : AllPairs IsAskedBefore anchored
  anchored_pairs =
      pairs_joined IsAskedBefore (about_anchors naming) (length s.bag + 1)
      (λ below less. pairs_map IsAskedBefore (question_about (AnchorsOf below)) (anchors_naming naming below) (is.anchors_ascend below) (λ a b before. inr (refl, before)))
      (λ j k less x y early late.
      let one = among_map (question_about (AnchorsOf j)) (anchors_naming naming j) x early in
      let other = among_map (question_about (AnchorsOf k)) (anchors_naming naming k) y late in
      subst (λ (q : SearchQuestion). IsAskedBefore q y) one.2 (subst (λ (q : SearchQuestion). IsAskedBefore (question_about (AnchorsOf j) one.0) q) other.2 (inl less)))

  issued_pairs : AllPairs IsAskedBefore issued
  issued_pairs =
      pairs_joined IsAskedBefore (about_issued naming) (length s.bag)
      (λ place less. pairs_map IsAskedBefore (question_about (IssuedBy place)) (named_by naming place) (is.named_ascend place) (λ a b before. inr (refl, before)))
      (λ j k less x y early late.
      let one = among_map (question_about (IssuedBy j)) (named_by naming j) x early in
      let other = among_map (question_about (IssuedBy k)) (named_by naming k) y late in
      subst (λ (q : SearchQuestion). IsAskedBefore q y) one.2 (subst (λ (q : SearchQuestion). IsAskedBefore (question_about (IssuedBy j) one.0) q) other.2 (inl less)))

  ordered : AllPairs IsAskedBefore (anchored ++ issued)
  ordered =
      pairs_append IsAskedBefore anchored issued anchored_pairs issued_pairs
      (λ x y early late.
      let from = among_joined (about_anchors naming) (length s.bag + 1) x early in
      let to = among_joined (about_issued naming) (length s.bag) y late in
      let one = among_map (question_about (AnchorsOf from.0)) (anchors_naming naming from.0) x from.2 in
      let other = among_map (question_about (IssuedBy to.0)) (named_by naming to.0) y to.2 in
      subst (λ (q : SearchQuestion). IsAskedBefore q y) one.2
      (subst (λ (q : SearchQuestion). IsAskedBefore (question_about (AnchorsOf from.0) one.0) q) other.2 tt))

  are_questions : AreSearchQuestions s (anchored ++ issued)
  are_questions = record {
    each = λ question listed. elim (Contains-append_cases anchored issued question listed) [
      | inl early ↦ each_anchored question early
      | inr late ↦ each_issued question late
    ];
    all = λ question one. among question.issuer question.certificate one.there one.named one.leads;
    once = λ i j d less within same.
        let q = get_or (anchored ++ issued) j d in
        not_before_itself q.issuer q.certificate
        (subst (λ (x : SearchQuestion). IsAskedBefore x q) same (ordered i j d less within));
  }

  -- the list to which they are added one behind the other
  pub listed : (n : ℕ) (start first all : List SearchQuestion) → n ≡ length s.bag → start ≡ []
      → first ≡ start ++ joined_below (about_anchors naming) (n + 1) → all ≡ first ++ joined_below (about_issued naming) n
      → AreSearchQuestions s all × AllPairs IsAskedBefore all
  listed n start first all size none one other =
      let early = λ (m : ℕ). joined_below (about_anchors naming) (m + 1) in
      let late = joined_below (about_issued naming) in
      subst (λ (questions : List SearchQuestion). AreSearchQuestions s questions × AllPairs IsAskedBefore questions)
      (sym (other
      ∙ (ap (λ (l : List SearchQuestion). l ++ late n) (one ∙ ap (λ (l : List SearchQuestion). l ++ early n) none)
      ∙ ap (λ (m : ℕ). early m ++ late m) size)))
      (are_questions, ordered)
