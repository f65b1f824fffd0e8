-- A piece behind the other.
use Rattle.std.proofs.Common.{◌≡◌, [], ◌++◌, ap, ◌∙◌, rules, w64, to_z-of_z, FitsSigned}
use Rattle.std.specs.Int.Signed.{mag}
use Rattle.text.specs.Text.{cut, ascii}
use Rattle.text.proofs.Cutting.{onto}
use Rattle.slot_text.proofs.Pieces.{whole_line}
use Rattle.slot_text.specs.Fields.{opening}
use Rattle.slot_text.specs.Lines.{slot_line, slot_read}
use Rattle.slot_text.proofs.line.slot_line.Goals as goal

pub returns : goal.returns
unfolding slot_line slot_read ascii
returns c =
    let f = c.args.style.form in
    let fits : FitsSigned w64 c.args.slot.closing_counter.0 = search rules in
    let counter : c.unsigned-counter.result ≡ mag c.args.slot.closing_counter.0 = c.unsigned-counter.ensures ∙ ap mag (to_z-of_z fits) in
    let opened : c.by_form-opened.result ≡ cut ([] ++ opening f) = rw c.new.ensures at c.by_form-opened.ensures in
    let numbered = onto [] _ _ opened c.with_number-numbered.ensures in
    let timed = onto [] _ _ numbered (rw counter at c.with_next_number-timed.ensures) in
    let linked = onto [] _ _ timed c.with_link-linked.ensures in
    onto [] _ _ (onto [] _ _ (onto [] _ _ linked c.with_burst-shown.ensures) c.with_halves-whole.ensures) c.by_form.ensures ∙ ap cut (whole_line f _ _ _ _ _)
