use Rattle.std.proofs.Common.{◌≡◌, Bool, ℕ, List, ◌∙◌, length, arith, ap, sym, subst}
use Rattle.std.specs.Global.{Vec}
use Rattle.path_issuers.specs.Frontier.{GrowsBy, IsSeen}
use Rattle.path_issuers.specs.Lists.{list_at, lists_of}
use Rattle.path_issuers.specs.Naming.{AreWanted}
use Rattle.path_issuers.specs.Wanting.{IsIssuerOf, SeesIssuers}
use Rattle.path_issuers.proofs.Reaching.{wanting_first, wanting_next, wanting_done}
use Rattle.path_issuers.proofs.wanted.wanted_names.Goals as goal

pub loop-number-init : goal.loop-number-init
loop-number-init c =
    let subjects = c.args.subjects.now in
    let issuers = c.args.issuers.now in
    let start = c.in_ok-frontier.ensures in
    let small = c.requires.issuers (length subjects) 0 c.requires.more in
    let is = c.number_at.ensures in
    let first = subst (λ (n : ℕ). IsSeen c.see.new.self n) is (c.in_ok-see.ensures.seen (omega (arith, is, start.count, small))) in
    let by = subst (λ (n : ℕ). GrowsBy (λ number. n ≡ number) c.in_ok-frontier.frontier c.see.new.self) is c.in_ok-see.ensures.only in
    wanting_first subjects issuers c.args.count c.in_ok-frontier.frontier c.see.new.self start.count start.none start.idle c.in_ok-see.ensures.grows by first

pub loop-number-preserved : goal.loop-number-preserved
loop-number-preserved c =
    let subjects = c.args.subjects.now in
    let issuers = c.args.issuers.now in
    let lists = c.in_ok-by_subject.by_subject.items in
    let number = c.in-Some.number in
    let old = c.loop-number.frontier in
    let mid = c.next.new.self in
    let new = c.see_issuers.new.frontier in
    let steps = c.in_ok-see_issuers.ensures in
    let list = c.list_at.ensures ∙ ap (λ (xs : List (Vec ℕ)). list_at (lists_of xs) number) c.deref.ensures.value in
    wanting_next subjects issuers c.args.count c.requires.more c.requires.issuers (lists_of lists) c.in_ok-by_subject.ensures old mid new number
    c.loop-number.invariant c.in-Some.ensures steps.grows
    (subst (λ (places : List ℕ). SeesIssuers issuers places mid new) list steps.seen)
    (subst (λ (places : List ℕ). GrowsBy (IsIssuerOf issuers places) mid new) list steps.only)

pub loop-number-smaller : goal.loop-number-smaller
loop-number-smaller c = omega (arith, c.in-Some.ensures.left, c.in_ok-see_issuers.ensures.grows.left)

pub returns : goal.returns
returns c =
    let subjects = c.args.subjects.now in
    let issuers = c.args.issuers.now in
    subst (λ (seen : Vec Bool). AreWanted subjects issuers seen.items) (sym c.into_seen.ensures)
    (wanting_done subjects issuers c.args.count c.loop-number.frontier c.next.new.self c.loop-number.invariant c.in_default.ensures)
