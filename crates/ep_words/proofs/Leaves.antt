-- What `clap` makes of the words of each command, in both outcomes.
use Rattle.std.proofs.Common.{◌≡◌, ◌∙◌, ℕ, List, [], ◌∷◌, Bool, true, false, ◌||◌, refl, sym, ap, Option, Some, None}
use Rattle.std.specs.Prelude.{fold}
use Rattle.std.specs.List.{slice_index_or}
use Rattle.std.specs.Option.{option_map_or}
use Rattle.clap.specs.Words.{Kinds, Rule, Shape, Text, new_app}
use Rattle.clap.specs.declared.error.kind.ErrorKind.{ErrorKind}
use Rattle.clap.specs.Kinds.{or_else}
use Rattle.clap.specs.Simple.{built, rows_at}
use Rattle.clap.specs.Walk.{Held, Step, Walk, after_step, arg_by_index, finished, idle, nothing_held, settled, to_positional, value, walk, walked, word_met}
use Rattle.clap.specs.Faults.{check_fault, defaults_fault, level_fault, positional_fault, settle_fault, stray_fault, turn_fault, walk_fault, word_fault}
use Rattle.clap.proofs.OnLiterals.{clap_on_literals}
use Rattle.ep_words.specs.Forms.{Form, has_dash, is_dash, play_in, serve_in, write_in, verify_in, make_in}
use Rattle.ep_words.specs.App.{padd, rows_for}

-- ---- one word of a leaf

pub or_false : (a b : Bool) → (a || b) ≡ false → (a ≡ false) × (b ≡ false)
or_false true b h = let bad : true ≡ false = h in absurd (cc)
or_false false b h = (refl, h)

plain_word_met : (c : List Rule) (position : ℕ) (word : Text) (h : Held) → is_dash word ≡ false → word_met c [] false idle position word h ≡ (h, value)
plain_word_met c position [] h e = refl
plain_word_met c position (x ∷ xs) h e = simp e refl

plain_word_passes : (s : Shape) (word : Text) (h : Held) → is_dash word ≡ false → word_fault s [] false idle word h ≡ []
plain_word_passes s [] h e = refl
plain_word_passes s (x ∷ xs) h e = simp e refl

-- where a walk stands before the positional at a place
abbrev pub at : Held → ℕ → Walk
at h p = record { held = h; waiting = idle; position = p; is_trailing = false; stopped = None }

walk_step : (c : List Rule) (h : Held) (p : ℕ) (word : Text) → is_dash word ≡ false
    → walked c [] (at h p) word ≡ to_positional c (arg_by_index c p) word (at h p) h
unfolding walked
walk_step c h p word e = ap (λ (m : Held × Step). after_step c word (at h p) m.0 m.1) (plain_word_met c p word h e)

abbrev fault_at : Shape → Held → ℕ → Kinds
fault_at s h p = option_map_or (λ a. positional_fault s.rules s.args_override_self a h) (arg_by_index s.rules p) (stray_fault s)

turn_step : (s : Shape) (h : Held) (p : ℕ) (word : Text) → is_dash word ≡ false → turn_fault s [] (at h p) word ≡ fault_at s h p
turn_step s h p word e = rw (plain_word_passes s word h e, plain_word_met s.rules p word h e) refl

faults_step : (s : Shape) (h : Held) (p : ℕ) (word : Text) (rest : List Text) → is_dash word ≡ false
    → walk_fault s [] (at h p) (word ∷ rest) ≡ or_else (fault_at s h p) (walk_fault s [] (to_positional s.rules (arg_by_index s.rules p) word (at h p) h) rest)
unfolding walk_fault
faults_step s h p word rest e = rw (turn_step s h p word e, walk_step s.rules h p word e) refl

-- the faults of a leaf, by where its walk ends
abbrev ends_with : Shape → Walk → Kinds → Kinds
ends_with s end faults = or_else faults (or_else [] (or_else (settle_fault s.rules s.args_override_self end.held)
    (or_else (defaults_fault (settled s.rules end.held).rows s.rules) (check_fault s (finished s.rules end.held) false))))

level_by : (s : Shape) (words : List Text) (end : Walk) (faults : Kinds) → walk s.rules [] nothing_held words ≡ end
    → walk_fault s [] (at nothing_held 1) words ≡ faults → level_fault s [] nothing_held words false [] ≡ ends_with s end faults
level_by s words end faults w f = rw (w, f) refl

pub kinds_differ : (k : ErrorKind) (ks : Kinds) → k ∷ ks ≡ [] → ⊥
kinds_differ k ks e = cc

-- a leaf takes the words for this form, or refuses them
abbrev pub Level : Shape → List Text → Option Form → Type 0
Level s words None = level_fault s [] nothing_held words false [] ≡ [] → ⊥
Level s words (Some form) = (level_fault s [] nothing_held words false [] ≡ []) × (Some (rows_at s words) ≡ rows_for form)

-- the leaf at a place
abbrev pub sub : ℕ → Shape
sub k = slice_index_or (built padd).subs k (new_app []).top

refuses : (s : Shape) (words : List Text) (faults : Kinds) → level_fault s [] nothing_held words false [] ≡ faults → (faults ≡ [] → ⊥) → Level s words None
refuses s words faults e never none = never (sym e ∙ none)

-- ---- play

pub play_level : (words : List Text) → has_dash words ≡ false → Level (sub 0) words (play_in words)
unfolding clap_on_literals
play_level [] d = (refl, refl)
play_level (a ∷ []) d =
    let d0 = or_false _ _ d in
    let w : walk (sub 0).rules [] nothing_held (a ∷ []) ≡ _ =
    walk_step (sub 0).rules _ 1 a d0.0 in
    let f : walk_fault (sub 0) [] (at nothing_held 1) (a ∷ []) ≡ [] =
    faults_step (sub 0) _ 1 a ([]) d0.0 in
    (level_by (sub 0) (a ∷ []) _ [] w f, ap (λ (x : Walk). Some ((sub 0).name, finished (sub 0).rules x.held)) w)
play_level (a ∷ x ∷ more) d =
    let d0 = or_false _ _ d in
    let d1 = or_false _ _ d0.1 in
    let f : walk_fault (sub 0) [] (at nothing_held 1) (a ∷ x ∷ more) ≡ _ =
    faults_step (sub 0) _ 1 a (x ∷ more) d0.0 ∙ faults_step (sub 0) _ 2 x (more) d1.0 in
    refuses (sub 0) (a ∷ x ∷ more) _ (level_by (sub 0) (a ∷ x ∷ more) _ _ refl f) (kinds_differ _ _)

-- ---- serve

pub serve_level : (words : List Text) → has_dash words ≡ false → Level (sub 1) words (serve_in words)
unfolding clap_on_literals
serve_level [] d = refuses (sub 1) [] _ refl (kinds_differ _ _)
serve_level (a ∷ []) d =
    let d0 = or_false _ _ d in
    let w : walk (sub 1).rules [] nothing_held (a ∷ []) ≡ _ =
    walk_step (sub 1).rules _ 1 a d0.0 in
    let f : walk_fault (sub 1) [] (at nothing_held 1) (a ∷ []) ≡ [] =
    faults_step (sub 1) _ 1 a ([]) d0.0 in
    refuses (sub 1) (a ∷ []) _ (level_by (sub 1) (a ∷ []) _ [] w f) (kinds_differ _ _)
serve_level (a ∷ b ∷ []) d =
    let d0 = or_false _ _ d in
    let d1 = or_false _ _ d0.1 in
    let w : walk (sub 1).rules [] nothing_held (a ∷ b ∷ []) ≡ _ =
    ap (λ (x : Walk). fold (walked (sub 1).rules []) x (b ∷ [])) (walk_step (sub 1).rules _ 1 a d0.0) ∙ walk_step (sub 1).rules _ 2 b d1.0 in
    let f : walk_fault (sub 1) [] (at nothing_held 1) (a ∷ b ∷ []) ≡ [] =
    faults_step (sub 1) _ 1 a (b ∷ []) d0.0 ∙ faults_step (sub 1) _ 2 b ([]) d1.0 in
    refuses (sub 1) (a ∷ b ∷ []) _ (level_by (sub 1) (a ∷ b ∷ []) _ [] w f) (kinds_differ _ _)
serve_level (a ∷ b ∷ u ∷ []) d =
    let d0 = or_false _ _ d in
    let d1 = or_false _ _ d0.1 in
    let d2 = or_false _ _ d1.1 in
    let w : walk (sub 1).rules [] nothing_held (a ∷ b ∷ u ∷ []) ≡ _ =
    ap (λ (x : Walk). fold (walked (sub 1).rules []) x (b ∷ u ∷ [])) (walk_step (sub 1).rules _ 1 a d0.0) ∙ ap (λ (x : Walk). fold (walked (sub 1).rules []) x (u ∷ [])) (walk_step (sub 1).rules _ 2 b d1.0) ∙ walk_step (sub 1).rules _ 3 u d2.0 in
    let f : walk_fault (sub 1) [] (at nothing_held 1) (a ∷ b ∷ u ∷ []) ≡ [] =
    faults_step (sub 1) _ 1 a (b ∷ u ∷ []) d0.0 ∙ faults_step (sub 1) _ 2 b (u ∷ []) d1.0 ∙ faults_step (sub 1) _ 3 u ([]) d2.0 in
    refuses (sub 1) (a ∷ b ∷ u ∷ []) _ (level_by (sub 1) (a ∷ b ∷ u ∷ []) _ [] w f) (kinds_differ _ _)
serve_level (a ∷ b ∷ u ∷ v ∷ []) d =
    let d0 = or_false _ _ d in
    let d1 = or_false _ _ d0.1 in
    let d2 = or_false _ _ d1.1 in
    let d3 = or_false _ _ d2.1 in
    let w : walk (sub 1).rules [] nothing_held (a ∷ b ∷ u ∷ v ∷ []) ≡ _ =
    ap (λ (x : Walk). fold (walked (sub 1).rules []) x (b ∷ u ∷ v ∷ [])) (walk_step (sub 1).rules _ 1 a d0.0) ∙ ap (λ (x : Walk). fold (walked (sub 1).rules []) x (u ∷ v ∷ [])) (walk_step (sub 1).rules _ 2 b d1.0) ∙ ap (λ (x : Walk). fold (walked (sub 1).rules []) x (v ∷ [])) (walk_step (sub 1).rules _ 3 u d2.0) ∙ walk_step (sub 1).rules _ 4 v d3.0 in
    let f : walk_fault (sub 1) [] (at nothing_held 1) (a ∷ b ∷ u ∷ v ∷ []) ≡ [] =
    faults_step (sub 1) _ 1 a (b ∷ u ∷ v ∷ []) d0.0 ∙ faults_step (sub 1) _ 2 b (u ∷ v ∷ []) d1.0 ∙ faults_step (sub 1) _ 3 u (v ∷ []) d2.0 ∙ faults_step (sub 1) _ 4 v ([]) d3.0 in
    (level_by (sub 1) (a ∷ b ∷ u ∷ v ∷ []) _ [] w f, ap (λ (x : Walk). Some ((sub 1).name, finished (sub 1).rules x.held)) w)
serve_level (a ∷ b ∷ u ∷ v ∷ x ∷ more) d =
    let d0 = or_false _ _ d in
    let d1 = or_false _ _ d0.1 in
    let d2 = or_false _ _ d1.1 in
    let d3 = or_false _ _ d2.1 in
    let d4 = or_false _ _ d3.1 in
    let f : walk_fault (sub 1) [] (at nothing_held 1) (a ∷ b ∷ u ∷ v ∷ x ∷ more) ≡ _ =
    faults_step (sub 1) _ 1 a (b ∷ u ∷ v ∷ x ∷ more) d0.0 ∙ faults_step (sub 1) _ 2 b (u ∷ v ∷ x ∷ more) d1.0 ∙ faults_step (sub 1) _ 3 u (v ∷ x ∷ more) d2.0 ∙ faults_step (sub 1) _ 4 v (x ∷ more) d3.0 ∙ faults_step (sub 1) _ 5 x (more) d4.0 in
    refuses (sub 1) (a ∷ b ∷ u ∷ v ∷ x ∷ more) _ (level_by (sub 1) (a ∷ b ∷ u ∷ v ∷ x ∷ more) _ _ refl f) (kinds_differ _ _)

-- ---- write

pub write_level : (words : List Text) → has_dash words ≡ false → Level (sub 2) words (write_in words)
unfolding clap_on_literals
write_level [] d = refuses (sub 2) [] _ refl (kinds_differ _ _)
write_level (a ∷ []) d =
    let d0 = or_false _ _ d in
    let w : walk (sub 2).rules [] nothing_held (a ∷ []) ≡ _ =
    walk_step (sub 2).rules _ 1 a d0.0 in
    let f : walk_fault (sub 2) [] (at nothing_held 1) (a ∷ []) ≡ [] =
    faults_step (sub 2) _ 1 a ([]) d0.0 in
    refuses (sub 2) (a ∷ []) _ (level_by (sub 2) (a ∷ []) _ [] w f) (kinds_differ _ _)
write_level (a ∷ b ∷ []) d =
    let d0 = or_false _ _ d in
    let d1 = or_false _ _ d0.1 in
    let w : walk (sub 2).rules [] nothing_held (a ∷ b ∷ []) ≡ _ =
    ap (λ (x : Walk). fold (walked (sub 2).rules []) x (b ∷ [])) (walk_step (sub 2).rules _ 1 a d0.0) ∙ walk_step (sub 2).rules _ 2 b d1.0 in
    let f : walk_fault (sub 2) [] (at nothing_held 1) (a ∷ b ∷ []) ≡ [] =
    faults_step (sub 2) _ 1 a (b ∷ []) d0.0 ∙ faults_step (sub 2) _ 2 b ([]) d1.0 in
    refuses (sub 2) (a ∷ b ∷ []) _ (level_by (sub 2) (a ∷ b ∷ []) _ [] w f) (kinds_differ _ _)
write_level (a ∷ b ∷ u ∷ []) d =
    let d0 = or_false _ _ d in
    let d1 = or_false _ _ d0.1 in
    let d2 = or_false _ _ d1.1 in
    let w : walk (sub 2).rules [] nothing_held (a ∷ b ∷ u ∷ []) ≡ _ =
    ap (λ (x : Walk). fold (walked (sub 2).rules []) x (b ∷ u ∷ [])) (walk_step (sub 2).rules _ 1 a d0.0) ∙ ap (λ (x : Walk). fold (walked (sub 2).rules []) x (u ∷ [])) (walk_step (sub 2).rules _ 2 b d1.0) ∙ walk_step (sub 2).rules _ 3 u d2.0 in
    let f : walk_fault (sub 2) [] (at nothing_held 1) (a ∷ b ∷ u ∷ []) ≡ [] =
    faults_step (sub 2) _ 1 a (b ∷ u ∷ []) d0.0 ∙ faults_step (sub 2) _ 2 b (u ∷ []) d1.0 ∙ faults_step (sub 2) _ 3 u ([]) d2.0 in
    (level_by (sub 2) (a ∷ b ∷ u ∷ []) _ [] w f, ap (λ (x : Walk). Some ((sub 2).name, finished (sub 2).rules x.held)) w)
write_level (a ∷ b ∷ u ∷ x ∷ more) d =
    let d0 = or_false _ _ d in
    let d1 = or_false _ _ d0.1 in
    let d2 = or_false _ _ d1.1 in
    let d3 = or_false _ _ d2.1 in
    let f : walk_fault (sub 2) [] (at nothing_held 1) (a ∷ b ∷ u ∷ x ∷ more) ≡ _ =
    faults_step (sub 2) _ 1 a (b ∷ u ∷ x ∷ more) d0.0 ∙ faults_step (sub 2) _ 2 b (u ∷ x ∷ more) d1.0 ∙ faults_step (sub 2) _ 3 u (x ∷ more) d2.0 ∙ faults_step (sub 2) _ 4 x (more) d3.0 in
    refuses (sub 2) (a ∷ b ∷ u ∷ x ∷ more) _ (level_by (sub 2) (a ∷ b ∷ u ∷ x ∷ more) _ _ refl f) (kinds_differ _ _)

-- ---- verify

pub verify_level : (words : List Text) → has_dash words ≡ false → Level (sub 3) words (verify_in words)
unfolding clap_on_literals
verify_level [] d = refuses (sub 3) [] _ refl (kinds_differ _ _)
verify_level (a ∷ []) d =
    let d0 = or_false _ _ d in
    let w : walk (sub 3).rules [] nothing_held (a ∷ []) ≡ _ =
    walk_step (sub 3).rules _ 1 a d0.0 in
    let f : walk_fault (sub 3) [] (at nothing_held 1) (a ∷ []) ≡ [] =
    faults_step (sub 3) _ 1 a ([]) d0.0 in
    refuses (sub 3) (a ∷ []) _ (level_by (sub 3) (a ∷ []) _ [] w f) (kinds_differ _ _)
verify_level (a ∷ b ∷ []) d =
    let d0 = or_false _ _ d in
    let d1 = or_false _ _ d0.1 in
    let w : walk (sub 3).rules [] nothing_held (a ∷ b ∷ []) ≡ _ =
    ap (λ (x : Walk). fold (walked (sub 3).rules []) x (b ∷ [])) (walk_step (sub 3).rules _ 1 a d0.0) ∙ walk_step (sub 3).rules _ 2 b d1.0 in
    let f : walk_fault (sub 3) [] (at nothing_held 1) (a ∷ b ∷ []) ≡ [] =
    faults_step (sub 3) _ 1 a (b ∷ []) d0.0 ∙ faults_step (sub 3) _ 2 b ([]) d1.0 in
    (level_by (sub 3) (a ∷ b ∷ []) _ [] w f, ap (λ (x : Walk). Some ((sub 3).name, finished (sub 3).rules x.held)) w)
verify_level (a ∷ b ∷ x ∷ more) d =
    let d0 = or_false _ _ d in
    let d1 = or_false _ _ d0.1 in
    let d2 = or_false _ _ d1.1 in
    let f : walk_fault (sub 3) [] (at nothing_held 1) (a ∷ b ∷ x ∷ more) ≡ _ =
    faults_step (sub 3) _ 1 a (b ∷ x ∷ more) d0.0 ∙ faults_step (sub 3) _ 2 b (x ∷ more) d1.0 ∙ faults_step (sub 3) _ 3 x (more) d2.0 in
    refuses (sub 3) (a ∷ b ∷ x ∷ more) _ (level_by (sub 3) (a ∷ b ∷ x ∷ more) _ _ refl f) (kinds_differ _ _)

-- ---- make

pub make_level : (words : List Text) → has_dash words ≡ false → Level (sub 4) words (make_in words)
unfolding clap_on_literals
make_level [] d = refuses (sub 4) [] _ refl (kinds_differ _ _)
make_level (a ∷ []) d =
    let d0 = or_false _ _ d in
    let w : walk (sub 4).rules [] nothing_held (a ∷ []) ≡ _ =
    walk_step (sub 4).rules _ 1 a d0.0 in
    let f : walk_fault (sub 4) [] (at nothing_held 1) (a ∷ []) ≡ [] =
    faults_step (sub 4) _ 1 a ([]) d0.0 in
    refuses (sub 4) (a ∷ []) _ (level_by (sub 4) (a ∷ []) _ [] w f) (kinds_differ _ _)
make_level (a ∷ b ∷ []) d =
    let d0 = or_false _ _ d in
    let d1 = or_false _ _ d0.1 in
    let w : walk (sub 4).rules [] nothing_held (a ∷ b ∷ []) ≡ _ =
    ap (λ (x : Walk). fold (walked (sub 4).rules []) x (b ∷ [])) (walk_step (sub 4).rules _ 1 a d0.0) ∙ walk_step (sub 4).rules _ 2 b d1.0 in
    let f : walk_fault (sub 4) [] (at nothing_held 1) (a ∷ b ∷ []) ≡ [] =
    faults_step (sub 4) _ 1 a (b ∷ []) d0.0 ∙ faults_step (sub 4) _ 2 b ([]) d1.0 in
    refuses (sub 4) (a ∷ b ∷ []) _ (level_by (sub 4) (a ∷ b ∷ []) _ [] w f) (kinds_differ _ _)
make_level (a ∷ b ∷ u ∷ []) d =
    let d0 = or_false _ _ d in
    let d1 = or_false _ _ d0.1 in
    let d2 = or_false _ _ d1.1 in
    let w : walk (sub 4).rules [] nothing_held (a ∷ b ∷ u ∷ []) ≡ _ =
    ap (λ (x : Walk). fold (walked (sub 4).rules []) x (b ∷ u ∷ [])) (walk_step (sub 4).rules _ 1 a d0.0) ∙ ap (λ (x : Walk). fold (walked (sub 4).rules []) x (u ∷ [])) (walk_step (sub 4).rules _ 2 b d1.0) ∙ walk_step (sub 4).rules _ 3 u d2.0 in
    let f : walk_fault (sub 4) [] (at nothing_held 1) (a ∷ b ∷ u ∷ []) ≡ [] =
    faults_step (sub 4) _ 1 a (b ∷ u ∷ []) d0.0 ∙ faults_step (sub 4) _ 2 b (u ∷ []) d1.0 ∙ faults_step (sub 4) _ 3 u ([]) d2.0 in
    (level_by (sub 4) (a ∷ b ∷ u ∷ []) _ [] w f, ap (λ (x : Walk). Some ((sub 4).name, finished (sub 4).rules x.held)) w)
make_level (a ∷ b ∷ u ∷ x ∷ more) d =
    let d0 = or_false _ _ d in
    let d1 = or_false _ _ d0.1 in
    let d2 = or_false _ _ d1.1 in
    let d3 = or_false _ _ d2.1 in
    let f : walk_fault (sub 4) [] (at nothing_held 1) (a ∷ b ∷ u ∷ x ∷ more) ≡ _ =
    faults_step (sub 4) _ 1 a (b ∷ u ∷ x ∷ more) d0.0 ∙ faults_step (sub 4) _ 2 b (u ∷ x ∷ more) d1.0 ∙ faults_step (sub 4) _ 3 u (x ∷ more) d2.0 ∙ faults_step (sub 4) _ 4 x (more) d3.0 in
    refuses (sub 4) (a ∷ b ∷ u ∷ x ∷ more) _ (level_by (sub 4) (a ∷ b ∷ u ∷ x ∷ more) _ _ refl f) (kinds_differ _ _)
