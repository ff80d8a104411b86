use Rattle.std.proofs.Common.{ℕ, sym, subst, ◌∙◌}
use Rattle.names_distinguished.specs.Repetition.{kinds_left, IsRest}
use Rattle.names_distinguished.proofs.NewKinds.{none_left_new}
use Rattle.names_distinguished.proofs.name.clear_after.Goals as goal

pub new_until-requires : goal.new_until-requires
new_until-requires c = subst (λ (at : ℕ). IsRest (kinds_left c.args.all) (kinds_left c.args.rest) at) (sym c.at-next.ensures.place) c.requires.rest

pub returns-then-end : goal.returns-then-end
returns-then-end c = none_left_new (kinds_left c.args.all) c.args.clear c.args.rest (sym c.end.ensures.none ∙ c.if-end.true)
