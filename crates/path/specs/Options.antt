-- What a question asks for besides.
use Rattle.statements_facts.specs.declared.profile.Profile.TheVariants.{Stated, Wide}
use Rattle.path.specs.declared.options.Options.{Options}

-- the stated profile, and nothing besides
abbrev pub stated_options : Options
stated_options = record { profile = Stated }

-- the wide one
abbrev pub wide_options : Options
wide_options = record { profile = Wide }
