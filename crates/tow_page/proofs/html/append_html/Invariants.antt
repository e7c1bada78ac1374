use Rattle.std.proofs.Common.{◌≡◌, ◌++◌, drop}
use Rattle.tow_semantics.specs.Pages.{html}
use Rattle.tow_page.proofs.html.append_html.Given as goal

-- what was written, and then the bytes that are left as HTML shows them, is the whole
abbrev pub invariant-loop-byte : goal.invariant-loop-byte
invariant-loop-byte l = l.out.items ++ html (drop l.byte-index l.text) ≡ l.fn.out.items ++ html l.text
