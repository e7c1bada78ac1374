use Rattle.tow_print.proofs.printer.actions.put_action.Goals as goal

pub returns-in-Rewrite : goal.returns-in-Rewrite
returns-in-Rewrite c = rw c.in-Rewrite.is (rw c.as_slice-in-Rewrite.ensures at c.put_call_of_template.ensures)

pub returns-in-Redirect : goal.returns-in-Redirect
returns-in-Redirect c = rw c.in-Redirect.is (rw c.as_slice-in-Redirect.ensures at c.put_call_of_template-in-Redirect.ensures)

pub returns-in-Header : goal.returns-in-Header
returns-in-Header c = rw c.in-Header.is (rw (c.as_slice-in-Header.ensures, c.as_slice-in-Header-2.ensures) at c.put_header.ensures)

pub returns-in-Resource : goal.returns-in-Resource
returns-in-Resource c = rw c.in-Resource.is (rw c.as_slice-in-Resource.ensures at c.put_resource.ensures)

pub returns-in-AccessLog : goal.returns-in-AccessLog
returns-in-AccessLog c = rw c.in-AccessLog.is (rw c.as_slice-in-AccessLog.ensures at c.put_call_of_template-in-AccessLog.ensures)
