-- What the texts ask of one table.
use Rattle.std.specs.Prelude.{ℕ, List, [], None, false, pos, negsuc}
use Rattle.sqlite.specs.Collation.TheVariants.{Binary}
use Rattle.sqlite.specs.declared.types.Value.TheVariants.{Int}
use Rattle.sqlite.specs.Term.{Term, lit, col, op2}
use Rattle.sqlite.specs.Query.{Query, inner, end}
use Rattle.sqlite_sql.specs.declared.ops.BinaryOp.TheVariants.{Compare}
use Rattle.sqlite_sql.specs.declared.ops.CompareOp.TheVariants.{Eq, Lt, Ge}

-- a column, by its place in the row, is a parameter, is at least a parameter, is below a parameter
abbrev pub is_param : ℕ → ℕ → Term
is_param place param = op2 (Compare Eq Binary) (col 1 place) (col 0 param)

abbrev pub from_param : ℕ → ℕ → Term
from_param place param = op2 (Compare Ge Binary) (col 1 place) (col 0 param)

abbrev pub below_param : ℕ → ℕ → Term
below_param place param = op2 (Compare Lt Binary) (col 1 place) (col 0 param)

-- the rows of a table for which the terms hold, and what is shown of them
abbrev pub rows_of : ℕ → List Term → List Term → Query
rows_of tree filter project = record {
  from = inner tree end;
  filter = filter;
  group = None;
  project = project;
  distinct = false;
  collations = [];
  order = [];
  limit = lit (Int (negsuc 0));
  offset = lit (Int (pos 0));
}
