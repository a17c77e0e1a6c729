-- The definitions on rows, by computation.
use Rattle.std.proofs.Common.{◌≡◌, ℕ, ◌%◌, [], ◌∷◌, Some, None, Option, refl}
use Rattle.ep_cs.specs.Doc.{Doc, text_of}
use Rattle.ep_cs.specs.Change.{Change, stamped}
use Rattle.ep_cs.specs.Plain.{plain}
use Rattle.ep_cs.specs.Splice.{splice}
use Rattle.ep_frames.specs.Frames.{last_due, mark_in}
use Rattle.ep_frames.specs.declared.frame_mark.FrameMark.TheVariants as mark

-- with spacing 7, revisions 6, 7 and 250 are 6, 0 and 5 behind a frame
steps_6 : 6 % 7 ≡ 6
steps_6 = refl

steps_7 : 7 % 7 ≡ 0
steps_7 = refl

steps_250 : 250 % 7 ≡ 5
steps_250 = refl

-- "ab\n", and x typed at its front
abbrev ab : Doc
ab = plain (97 ∷ 98 ∷ 10 ∷ [])

abbrev typed : Doc
typed = plain (120 ∷ 97 ∷ 98 ∷ 10 ∷ [])

abbrev typing : Change
typing = stamped (splice 3 0 0 (plain (120 ∷ []))) (text_of ab)

-- all of it dropped, and the newline given back
abbrev dropping : Change
dropping = stamped (splice 3 0 3 []) (text_of ab)

abbrev ending : Change
ending = stamped (splice 0 0 0 (plain (10 ∷ []))) []

-- a step of one revision, and one of two, the second by a newline
abbrev one : ℕ → ℕ → Option Doc
one spacing r = last_due spacing r ab (typing ∷ [])

abbrev two : ℕ → ℕ → Option Doc
two spacing r = last_due spacing r ab (dropping ∷ ending ∷ [])

due_1_1 : one 1 1 ≡ Some typed
due_1_1 = refl

due_2_1 : one 2 1 ≡ None
due_2_1 = refl

due_2_2 : one 2 2 ≡ Some typed
due_2_2 = refl

due_100_99 : one 100 99 ≡ None
due_100_99 = refl

due_100_100 : one 100 100 ≡ Some typed
due_100_100 = refl

-- both of the two are due, the second is, the first is, none is
both_due : two 1 1 ≡ Some (plain (10 ∷ []))
both_due = refl

second_due : two 2 1 ≡ Some (plain (10 ∷ []))
second_due = refl

first_due : two 2 2 ≡ Some []
first_due = refl

neither_due : two 4 1 ≡ None
neither_due = refl

-- format 1 has no mark
in_format_1 : mark_in 1 (Some ab) ≡ mark.None
in_format_1 = refl

none_in_format_2 : mark_in 2 None ≡ mark.None
none_in_format_2 = refl
