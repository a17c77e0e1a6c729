use Rattle.ep_script.proofs.Spaces.{look_up-missing}
use Rattle.ep_script.specs.Line.{other_lines}
use Rattle.ep_script.proofs.line.read_words.Goals as goal

pub returns-in_ok-read_insert-in-insert-clause-line : goal.returns-in_ok-read_insert-in-insert-clause-line
returns-in_ok-read_insert-in-insert-clause-line c =
    let h = rw (c.in_ok-read_insert-in-insert.ensures.edit, c.behind.ensures) at c.read_edit.ensures.line in
    rw c.in-insert.is h

pub returns-in-delete-clause-line : goal.returns-in-delete-clause-line
returns-in-delete-clause-line c =
    let h = rw (c.read_delete.ensures.edit, c.behind-in-delete.ensures) at c.read_edit-in-delete.ensures.line in
    rw c.in-delete.is h

pub returns-in_ok-read_format-in-format-clause-line : goal.returns-in_ok-read_format-in-format-clause-line
returns-in_ok-read_format-in-format-clause-line c =
    let h = rw (c.in_ok-read_format-in-format.ensures.edit, c.behind-in-format.ensures) at c.read_edit-in-format.ensures.line in
    rw c.in-format.is h

pub returns-in_default-clause-line : goal.returns-in_default-clause-line
returns-in_default-clause-line c =
    let d = c.in_default in
    let none = look_up-missing c.args.word.now other_lines (d.not-create, (d.not-set, (d.not-drop, (d.not-insert, (d.not-delete, (d.not-format, (d.not-attr, (d.not-inject, (d.not-crash, (d.not-head, (d.not-text, (d.not-marks, tt)))))))))))) in
    rw none c.read_named.ensures.line
