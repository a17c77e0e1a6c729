-- Changes: what is done at each place and gap, with claims of the newlines of the text that it is done to.
use Rattle.std.specs.Prelude.{ℕ, ◌-◌, cond, List, [], ◌∷◌, ◌++◌, map}
use Rattle.ep_units.specs.Text.{Text, is_newline}
use Rattle.ep_cs.specs.Doc.{Cell, text_of}
use Rattle.ep_cs.specs.Edit.{Place, Edit, edit_of}
use Rattle.ep_cs.specs.declared.op.Op.{Op}
use Rattle.ep_cs.specs.Runs.{steps_of, marks_of, all_passed, rest_kept}
use Rattle.ep_cs.specs.Normal.{runs_from}

-- a change: what it does, and its normal runs, whose numbers of lines are its claims
pub record Change : Type 0 where
  pub edit : Edit
  pub runs : List Op

-- the change that makes this edit where the places hold so many newlines each
abbrev pub change_with : Edit → List ℕ → Change
change_with e marks = record { edit = e; runs = runs_from e.places e.last marks }

-- the change that runs over n units stand for, in whatever order and pieces they are written
abbrev pub change_of : ℕ → List Op → Text → Change
change_of n ops bank =
    change_with (edit_of (steps_of ops bank ++ rest_kept (n - all_passed ops))) (marks_of ops)

-- 1 at each newline
abbrev pub newlines : Text → List ℕ
newlines us = map (λ u. cond (is_newline u) 1 0) us

-- the change that makes this edit and fits this text
abbrev pub stamped : Edit → Text → Change
stamped e text = change_with e (newlines text)

-- the units that an edit inserts, in order
abbrev pub bank_from : List Place → List Cell → Text
bank_from [] last = text_of last
bank_from (p ∷ ps) last = text_of p.before ++ bank_from ps last

abbrev pub bank_of : Edit → Text
bank_of e = bank_from e.places e.last
