use Rattle.names_distinguished.specs.NameView.{entry_of}
use Rattle.names_distinguished.specs.AttributeValue.{compared_value}
use Rattle.names_distinguished.specs.Agreement.{run_left}
use Rattle.names_distinguished.proofs.Agreement.{fits_found, fits_none, count_one, count_none}
use Rattle.names_distinguished.proofs.run.Run.finds.Goals as goal

pub returns-then-same_value : goal.returns-then-same_value
returns-then-same_value c = record {
  fits = (fits_found (run_left c.args.self.now) (entry_of c.args.attribute.now) (compared_value c.in-Some.found) c.in-Some.ensures (c.same_value.ensures.0 c.if-same_value.true), tt);
  number = count_one (run_left c.args.self.now) (entry_of c.args.attribute.now) (compared_value c.in-Some.found) c.in-Some.ensures;
}

pub returns-in-None : goal.returns-in-None
returns-in-None c = record {
  fits = (fits_none (run_left c.args.self.now) (entry_of c.args.attribute.now) c.in-None.ensures, tt);
  number = count_none (run_left c.args.self.now) (entry_of c.args.attribute.now) c.in-None.ensures;
}
