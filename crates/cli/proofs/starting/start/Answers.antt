use Rattle.std.proofs.Common.{rules, ◌≡◌, inl, inr, refl, map, min, take, drop, length}
use Rattle.cli_failures.specs.declared.failure.Failure.TheVariants.{NoMemory}
use Rattle.cli.proofs.Leading.{command_is}
use Rattle.cli.proofs.starting.start.Goals as goal

pub returns-in-Ok-clause-answered : goal.returns-in-Ok-clause-answered
returns-in-Ok-clause-answered g c = λ answers.
    let named : c.split_at.result.0.now ≡ take (min (length c.args.words.now) 1) c.args.words.now = search rules in
    let rest : c.split_at.result.1.now ≡ drop (min (length c.args.words.now) 1) c.args.words.now = search rules in (
      c.run_options.result.options,
      map (λ w. w.now) c.in-Ok.command.items,
      command_is (λ w. w.now) c.args.words.now c.split_at.result.0.now c.split_at.result.1.now c.run_options.result.words.now c.in-Ok.command.items c.run_options.result.options
          named rest c.run_options.ensures.takes c.in-Ok.ensures,
      rw (← c.as_slice.ensures.value) (c.run_words.ensures.answered answers),
    )

pub returns-in-Ok-clause-failed : goal.returns-in-Ok-clause-failed
returns-in-Ok-clause-failed g c = λ failing.
    let named : c.split_at.result.0.now ≡ take (min (length c.args.words.now) 1) c.args.words.now = search rules in
    let rest : c.split_at.result.1.now ≡ drop (min (length c.args.words.now) 1) c.args.words.now = search rules in (
      c.run_options.result.options,
      map (λ w. w.now) c.in-Ok.command.items,
      command_is (λ w. w.now) c.args.words.now c.split_at.result.0.now c.split_at.result.1.now c.run_options.result.words.now c.in-Ok.command.items c.run_options.result.options
          named rest c.run_options.ensures.takes c.in-Ok.ensures,
      rw (← c.as_slice.ensures.value) (c.run_words.ensures.failed failing),
    )

pub returns-in-Err-clause-failed : goal.returns-in-Err-clause-failed
returns-in-Err-clause-failed g c = λ failing.
    let named : c.split_at.result.0.now ≡ take (min (length c.args.words.now) 1) c.args.words.now = search rules in
    let rest : c.split_at.result.1.now ≡ drop (min (length c.args.words.now) 1) c.args.words.now = search rules in (
      c.run_options.result.options,
      _,
      command_is (λ w. w.now) c.args.words.now c.split_at.result.0.now c.split_at.result.1.now c.run_options.result.words.now _ c.run_options.result.options
          named rest c.run_options.ensures.takes refl,
      inl (NoMemory, inr (inl refl), refl, tt, tt),
    )
