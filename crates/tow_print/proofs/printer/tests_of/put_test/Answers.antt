use Rattle.tow_print.proofs.printer.tests_of.put_test.Goals as goal

pub returns-in-Exists : goal.returns-in-Exists
returns-in-Exists c = rw c.in-Exists.is (rw c.as_slice-in-Exists.ensures at c.put_call_of_template.ensures)
