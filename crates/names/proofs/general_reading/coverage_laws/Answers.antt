use Rattle.names.proofs.CoverageLaws.{coverage_test_is_exact, coverage_is_of_contents, inside_is_of_contents, name_form_is_of_contents, base_form_is_of_contents, form_test_is_of_contents, base_inside_is_sound, shared_bases_are_nested, covered_is_of_form, covered_is_processed, base_form_test_is_exact}
use Rattle.names.proofs.general_reading.coverage_laws.Goals as goal

pub returns : goal.returns
returns c = record {
  test = coverage_test_is_exact;
  covers = coverage_is_of_contents;
  inside = inside_is_of_contents;
  name_form = name_form_is_of_contents;
  base_form = base_form_is_of_contents;
  has_form = form_test_is_of_contents;
  sound = base_inside_is_sound;
  nested = shared_bases_are_nested;
  form = covered_is_of_form;
  processed = covered_is_processed;
  form_test = base_form_test_is_exact;
}
