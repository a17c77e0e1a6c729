-- What `clap` makes of all words, in both outcomes.
use Rattle.std.proofs.Common.{◌≡◌, ◌≢◌, ◌∙◌, inl, inr, ℕ, List, [], ◌∷◌, ◌++◌, true, false, refl, sym, ap, subst, codes, Option, Some, None, is_some, append_assoc, append-nil}
use Rattle.std.proofs.lemmas.Bool.{cases_Bool}
use Rattle.std.proofs.lemmas.Slice.Eq.{bytes_eq-Decides}
use Rattle.std.specs.Prelude.{fold}
use Rattle.std.specs.Str.{bytes_eq}
use Rattle.clap.specs.Words.{App, Kinds, Rule, Shape, Text, fault_of, is_simple, subcommand_of}
use Rattle.clap.specs.Faults.{is_simple_and_free, check_fault, defaults_fault, entered_fault, level_fault, settle_fault, stray_fault, turn_fault, walk_fault, word_fault}
use Rattle.clap.specs.Kinds.{IsAmong, or_else}
use Rattle.clap.specs.declared.error.kind.ErrorKind.{ErrorKind}
use Rattle.clap.specs.Simple.{built, entered, names_of, rows_at}
use Rattle.clap.specs.Walk.{Held, Names, Walk, finished, idle, nothing_held, settled, subcommand_met, value, walk, walked, word_met}
use Rattle.clap.proofs.OnLiterals.{clap_on_literals}
use Rattle.ep_words.specs.Forms.{Form, play, serve, write, verify, make, form_by, form_in, has_dash, is_dash, play_in, serve_in, write_in, verify_in, make_in}
use Rattle.ep_words.specs.App.{form_met, padd, rows_for}
use Rattle.ep_words.proofs.Leaves.{Level, at, kinds_differ, or_false, sub, play_level, serve_level, write_level, verify_level, make_level}

abbrev all : App
all = built padd

pub padd_is_simple : is_simple padd ≡ true
unfolding clap_on_literals
padd_is_simple = refl

pub padd_is_free : is_simple_and_free padd ≡ true
unfolding clap_on_literals
padd_is_free = refl

-- ---- a walk that has met a subcommand

abbrev stop_at : Text → List Text → Walk
stop_at name seen = record { held = nothing_held; waiting = idle; position = 1; is_trailing = false; stopped = Some (name, seen) }

stopped_walk : (c : List Rule) (names : Names) (name : Text) (seen rest : List Text) → fold (walked c names) (stop_at name seen) rest ≡ stop_at name (seen ++ rest)
unfolding walked
stopped_walk c names name seen [] = ap (stop_at name) (sym (append-nil seen))
stopped_walk c names name seen (w ∷ rest) = stopped_walk c names name (seen ++ w ∷ []) rest ∙ ap (stop_at name) (append_assoc seen (w ∷ []) rest)

stopped_faults : (s : Shape) (names : Names) (name : Text) (seen rest : List Text) → walk_fault s names (stop_at name seen) rest ≡ []
unfolding walked walk_fault
stopped_faults s names name seen [] = refl
stopped_faults s names name seen (w ∷ rest) = stopped_faults s names name (seen ++ w ∷ []) rest

-- the parse takes the words for this form, or refuses them
abbrev pub Agrees : List Text → Option Form → Type 0
Agrees words None = fault_of padd words ≡ [] → ⊥
Agrees words (Some form) = (fault_of padd words ≡ []) × (subcommand_of padd words ≡ rows_for form)

or_none : (faults : Kinds) → or_else faults [] ≡ faults
or_none [] = refl
or_none (k ∷ ks) = refl

lifted : (words rest : List Text) (s : Shape) (o : Option Form) → fault_of padd words ≡ or_else (level_fault s [] nothing_held rest false []) []
    → subcommand_of padd words ≡ Some (rows_at s rest) → Level s rest o → Agrees words o
lifted words rest s None f r never = λ none. never (sym (f ∙ or_none (level_fault s [] nothing_held rest false [])) ∙ none)
lifted words rest s (Some form) f r (none, rows) = (f ∙ (or_none (level_fault s [] nothing_held rest false []) ∙ none), r ∙ rows)

play_walk : (rest : List Text) → walk all.top.rules (names_of all) nothing_held (codes "play" ∷ rest) ≡ stop_at (codes "play") rest
unfolding clap_on_literals
play_walk rest = stopped_walk all.top.rules (names_of all) (codes "play") [] rest

play_faults : (rest : List Text) → walk_fault all.top (names_of all) (at nothing_held 1) (codes "play" ∷ rest) ≡ []
unfolding clap_on_literals
play_faults rest = stopped_faults all.top (names_of all) (codes "play") [] rest

play_fault : (rest : List Text) → fault_of padd (codes "play" ∷ rest) ≡ or_else (level_fault (sub 0) [] nothing_held rest false []) []
unfolding clap_on_literals
play_fault rest = rw (play_walk rest, play_faults rest) refl

play_agrees : (rest : List Text) → has_dash rest ≡ false → Agrees (codes "play" ∷ rest) (play_in rest)
play_agrees rest d = lifted (codes "play" ∷ rest) rest (sub 0) (play_in rest) (play_fault rest) (ap (λ (x : Walk). entered all x.stopped) (play_walk rest)) (play_level rest d)

serve_walk : (rest : List Text) → walk all.top.rules (names_of all) nothing_held (codes "serve" ∷ rest) ≡ stop_at (codes "serve") rest
unfolding clap_on_literals
serve_walk rest = stopped_walk all.top.rules (names_of all) (codes "serve") [] rest

serve_faults : (rest : List Text) → walk_fault all.top (names_of all) (at nothing_held 1) (codes "serve" ∷ rest) ≡ []
unfolding clap_on_literals
serve_faults rest = stopped_faults all.top (names_of all) (codes "serve") [] rest

serve_fault : (rest : List Text) → fault_of padd (codes "serve" ∷ rest) ≡ or_else (level_fault (sub 1) [] nothing_held rest false []) []
unfolding clap_on_literals
serve_fault rest = rw (serve_walk rest, serve_faults rest) refl

serve_agrees : (rest : List Text) → has_dash rest ≡ false → Agrees (codes "serve" ∷ rest) (serve_in rest)
serve_agrees rest d = lifted (codes "serve" ∷ rest) rest (sub 1) (serve_in rest) (serve_fault rest) (ap (λ (x : Walk). entered all x.stopped) (serve_walk rest)) (serve_level rest d)

write_walk : (rest : List Text) → walk all.top.rules (names_of all) nothing_held (codes "write" ∷ rest) ≡ stop_at (codes "write") rest
unfolding clap_on_literals
write_walk rest = stopped_walk all.top.rules (names_of all) (codes "write") [] rest

write_faults : (rest : List Text) → walk_fault all.top (names_of all) (at nothing_held 1) (codes "write" ∷ rest) ≡ []
unfolding clap_on_literals
write_faults rest = stopped_faults all.top (names_of all) (codes "write") [] rest

write_fault : (rest : List Text) → fault_of padd (codes "write" ∷ rest) ≡ or_else (level_fault (sub 2) [] nothing_held rest false []) []
unfolding clap_on_literals
write_fault rest = rw (write_walk rest, write_faults rest) refl

write_agrees : (rest : List Text) → has_dash rest ≡ false → Agrees (codes "write" ∷ rest) (write_in rest)
write_agrees rest d = lifted (codes "write" ∷ rest) rest (sub 2) (write_in rest) (write_fault rest) (ap (λ (x : Walk). entered all x.stopped) (write_walk rest)) (write_level rest d)

verify_walk : (rest : List Text) → walk all.top.rules (names_of all) nothing_held (codes "verify" ∷ rest) ≡ stop_at (codes "verify") rest
unfolding clap_on_literals
verify_walk rest = stopped_walk all.top.rules (names_of all) (codes "verify") [] rest

verify_faults : (rest : List Text) → walk_fault all.top (names_of all) (at nothing_held 1) (codes "verify" ∷ rest) ≡ []
unfolding clap_on_literals
verify_faults rest = stopped_faults all.top (names_of all) (codes "verify") [] rest

verify_fault : (rest : List Text) → fault_of padd (codes "verify" ∷ rest) ≡ or_else (level_fault (sub 3) [] nothing_held rest false []) []
unfolding clap_on_literals
verify_fault rest = rw (verify_walk rest, verify_faults rest) refl

verify_agrees : (rest : List Text) → has_dash rest ≡ false → Agrees (codes "verify" ∷ rest) (verify_in rest)
verify_agrees rest d = lifted (codes "verify" ∷ rest) rest (sub 3) (verify_in rest) (verify_fault rest) (ap (λ (x : Walk). entered all x.stopped) (verify_walk rest)) (verify_level rest d)

make_walk : (rest : List Text) → walk all.top.rules (names_of all) nothing_held (codes "make" ∷ rest) ≡ stop_at (codes "make") rest
unfolding clap_on_literals
make_walk rest = stopped_walk all.top.rules (names_of all) (codes "make") [] rest

make_faults : (rest : List Text) → walk_fault all.top (names_of all) (at nothing_held 1) (codes "make" ∷ rest) ≡ []
unfolding clap_on_literals
make_faults rest = stopped_faults all.top (names_of all) (codes "make") [] rest

make_fault : (rest : List Text) → fault_of padd (codes "make" ∷ rest) ≡ or_else (level_fault (sub 4) [] nothing_held rest false []) []
unfolding clap_on_literals
make_fault rest = rw (make_walk rest, make_faults rest) refl

make_agrees : (rest : List Text) → has_dash rest ≡ false → Agrees (codes "make" ∷ rest) (make_in rest)
make_agrees rest d = lifted (codes "make" ∷ rest) rest (sub 4) (make_in rest) (make_fault rest) (ap (λ (x : Walk). entered all x.stopped) (make_walk rest)) (make_level rest d)

-- ---- a word that is no command

other_met : (c : List Rule) (names : Names) (p : ℕ) (word : Text) (h : Held) → is_dash word ≡ false → subcommand_met names idle word ≡ None
    → word_met c names false idle p word h ≡ (h, value)
other_met c names p [] h e m = rw m refl
other_met c names p (x ∷ xs) h e m = rw m (simp e refl)

other_passes : (s : Shape) (names : Names) (word : Text) (h : Held) → is_dash word ≡ false → subcommand_met names idle word ≡ None
    → word_fault s names false idle word h ≡ []
other_passes s names [] h e m = rw m refl
other_passes s names (x ∷ xs) h e m = rw m (simp e refl)

-- what a parse meets behind its walk
abbrev later : List Text → Kinds
later words =
    let w = walk all.top.rules (names_of all) nothing_held words in
    or_else (entered_fault all w.stopped) (or_else (settle_fault all.top.rules all.top.args_override_self w.held)
    (or_else (defaults_fault (settled all.top.rules w.held).rows all.top.rules) (check_fault all.top (finished all.top.rules w.held) (is_some (entered all w.stopped)))))

stray : (word : Text) (rest : List Text) → is_dash word ≡ false → subcommand_met (names_of all) idle word ≡ None → fault_of padd (word ∷ rest) ≡ [] → ⊥
unfolding clap_on_literals
stray word rest e m =
    let turn : turn_fault all.top (names_of all) (at nothing_held 1) word ≡ stray_fault all.top = rw (other_passes all.top (names_of all) word nothing_held e m, other_met all.top.rules (names_of all) 1 word nothing_held e m) refl in
    let f : walk_fault all.top (names_of all) (at nothing_held 1) (word ∷ rest) ≡ stray_fault all.top = ap (λ (t : Kinds). or_else t (walk_fault all.top (names_of all) (walked all.top.rules (names_of all) (at nothing_held 1) word) rest)) turn in
    let g : fault_of padd (word ∷ rest) ≡ stray_fault all.top = ap (λ (t : Kinds). or_else t (later (word ∷ rest))) f in
    λ none. kinds_differ _ _ (sym g ∙ none)

none_named : (word : Text) → bytes_eq (codes "play") word ≡ false → bytes_eq (codes "serve") word ≡ false → bytes_eq (codes "write") word ≡ false
    → bytes_eq (codes "verify") word ≡ false → bytes_eq (codes "make") word ≡ false → subcommand_met (names_of all) idle word ≡ None
none_named word a b c d e = rw (a, b, c, d, e) refl

named : (name word : Text) (rest : List Text) (o : Option Form) → bytes_eq name word ≡ true → form_by name rest ≡ o → Agrees (name ∷ rest) o → Agrees (word ∷ rest) (form_by word rest)
named name word rest o e f agrees =
    let is : name ≡ word = (bytes_eq-Decides name word).0 e in
    subst (λ n. Agrees (n ∷ rest) (form_by n rest)) is (subst (λ x. Agrees (name ∷ rest) x) (sym f) agrees)

pub judged : (word : Text) (rest : List Text) → has_dash (word ∷ rest) ≡ false → Agrees (word ∷ rest) (form_by word rest)
judged word rest dash =
    let d = or_false _ _ dash in
    elim (cases_Bool (bytes_eq (codes "play") word)) [
      | inl e ↦ named (codes "play") word rest (play_in rest) e refl (play_agrees rest d.1)
      | inr n0 ↦ elim (cases_Bool (bytes_eq (codes "serve") word)) [
        | inl e ↦ named (codes "serve") word rest (serve_in rest) e refl (serve_agrees rest d.1)
        | inr n1 ↦ elim (cases_Bool (bytes_eq (codes "write") word)) [
          | inl e ↦ named (codes "write") word rest (write_in rest) e refl (write_agrees rest d.1)
          | inr n2 ↦ elim (cases_Bool (bytes_eq (codes "verify") word)) [
            | inl e ↦ named (codes "verify") word rest (verify_in rest) e refl (verify_agrees rest d.1)
            | inr n3 ↦ elim (cases_Bool (bytes_eq (codes "make") word)) [
              | inl e ↦ named (codes "make") word rest (make_in rest) e refl (make_agrees rest d.1)
              | inr n4 ↦
                  let none : form_by word rest ≡ None = rw (n0, n1, n2, n3, n4) refl in
                  subst (Agrees (word ∷ rest)) (sym none) (stray word rest d.0 (none_named word n0 n1 n2 n3 n4))
            ]
          ]
        ]
      ]
    ]

-- ---- back to the form

met_again : (f : Form) → form_met (rows_for f) ≡ Some f
met_again (play None) = refl
met_again (play (Some a)) = refl
met_again (serve a b c d) = refl
met_again (write a b c) = refl
met_again (verify a b) = refl
met_again (make a b c) = refl

form_agrees : (words : List Text) (o : Option Form) → Agrees words o → fault_of padd words ≡ [] → form_met (subcommand_of padd words) ≡ o
form_agrees words None never none = absurd (never none)
form_agrees words (Some f) agrees none = ap form_met agrees.1 ∙ met_again f

-- where the parse takes the words, they ask for what was found
pub taken : (words : List Text) → words ≢ [] → has_dash words ≡ false → fault_of padd words ≡ [] → form_in words ≡ form_met (subcommand_of padd words)
taken [] some dash none = absurd (some refl)
taken (word ∷ rest) some dash none =
    let e : form_in (word ∷ rest) ≡ form_by word rest = rw dash refl in
    e ∙ sym (form_agrees (word ∷ rest) (form_by word rest) (judged word rest dash) none)

no_form : (words : List Text) (o : Option Form) (k : ErrorKind) → Agrees words o → IsAmong k (fault_of padd words) → o ≡ None
no_form words None k agrees among = refl
no_form words (Some f) k agrees among = absurd (subst (IsAmong k) agrees.0 among)

-- where the parse refuses them for a kind of its own, they ask for nothing
pub refused : (words : List Text) (k : ErrorKind) → words ≢ [] → has_dash words ≡ false → IsAmong k (fault_of padd words) → form_in words ≡ None
refused [] k some dash among = absurd (some refl)
refused (word ∷ rest) k some dash among =
    let e : form_in (word ∷ rest) ≡ form_by word rest = rw dash refl in
    e ∙ no_form (word ∷ rest) (form_by word rest) k (judged word rest dash) among
