-- Steps that follow one another.
use Rattle.std.proofs.Common.{◌≡◌, ℕ, zero, suc, ◌+◌, Bool, true, false, Option, if◌then◌else◌, refl, sym, ap, ◌∙◌, subst, add-one}
use Rattle.ep_outside.specs.Disk.{Contents}
use Rattle.ep_schedule.specs.World.{Name, WorldState}
use Rattle.ep_event.specs.declared.event.Event.TheVariants.{Edit, Hear, Push, Submit, Take}
use Rattle.ep_event.specs.declared.event.Local.{Local}
use Rattle.ep_world.specs.declared.world.World.{World}
use Rattle.ep_make.specs.Draws.{drawn_edit, name_of}
use Rattle.ep_make.specs.Generator.{following, pick}
use Rattle.ep_make.specs.Made.{IsOf, Leads, Moves}
use Rattle.ep_make.specs.Round.{IsDrained, Rests, Round, RoundOf, after, back, does, sent, view_length}
use Rattle.ep_make.specs.Schedule.{Each, Rounds, Settles}

-- ---- in the world of the rules

-- what is drained from there is drained from here
abbrev pub DrainsFrom : Name → WorldState → WorldState → Type 0
DrainsFrom n w u = (v : WorldState) → IsDrained n u v → IsDrained n w v

told_more : (n : Name) (w : WorldState) → does w (Push n) ≡ true → DrainsFrom n w (after (after w (Push n)) (Hear n))
told_more n w e v d = (suc d.0, (e, d.1))

pub rests_as : (k j : ℕ) (n : Name) (w v : WorldState) → k ≡ j → Rests k n w v → Rests j n w v
rests_as k j n w v e r = subst (λ i. Rests i n w v) e r

pub rests_none : (k : ℕ) (n : Name) (w : WorldState) → (k ≡ 0 → ⊥) → (k ≡ 1 → ⊥) → Rests k n w w
rests_none zero n w a b = absurd (a refl)
rests_none (suc zero) n w a b = absurd (b refl)
rests_none (suc (suc k)) n w a b = refl

pub round_from : (clients x : ℕ) (n : Name) (y z end : ℕ) (e : Local) (w v : WorldState) → n ≡ name_of (pick clients x + 1) → y ≡ following x → (e, z) ≡ drawn_edit (view_length w n) y
    → end ≡ following z → Rests (pick 3 z) n (sent (after w (Edit n e)) n) v → Round clients x w end v
round_from clients x n y z end e w v is from drawn last rests =
    subst (λ m. RoundOf m (following x) w end v) is
    (subst (λ i. RoundOf n i w end v) from
    (subst (λ (d : Local × ℕ). Rests (pick 3 d.1) n (sent (after w (Edit n d.0)) n) v × (end ≡ following d.1)) drawn (rests, last)))

-- ---- of a world in code

module _ {D : Type 0} (told : D → Option Contents) (failures : D → ℕ) (stops_alone : D → Bool) where
  pub drain_begins : (n : Name) (world : World D) → Leads told failures stops_alone (DrainsFrom n) world world
  drain_begins n world = λ w at. (w, (λ v d. d), at)

  pub drain_goes : (n : Name) (first old push new : World D) (b : Bool) → b ≡ true → Leads told failures stops_alone (DrainsFrom n) first old
      → ((w : WorldState) → IsOf told failures stops_alone old w → (b ≡ does w (Push n)) × IsOf told failures stops_alone push (after w (Push n)))
      → Moves told failures stops_alone (λ w. after w (Hear n)) push new → Leads told failures stops_alone (DrainsFrom n) first new
  drain_goes n first old push new b is gone pushed heard = λ w at.
      let g = gone w at in
      let p = pushed g.0 g.2 in
      (after (after g.0 (Push n)) (Hear n), (λ v d. g.1 v (told_more n g.0 (sym p.0 ∙ is) v d)), heard (after g.0 (Push n)) p.1)

  pub drain_ends : (n : Name) (first old new : World D) (b : Bool) → b ≡ false → Leads told failures stops_alone (DrainsFrom n) first old
      → ((w : WorldState) → IsOf told failures stops_alone old w → (b ≡ does w (Push n)) × IsOf told failures stops_alone new (after w (Push n)))
      → Leads told failures stops_alone (IsDrained n) first new
  drain_ends n first old new b is gone pushed = λ w at.
      let g = gone w at in
      let p = pushed g.0 g.2 in
      (after g.0 (Push n), g.1 (after g.0 (Push n)) (0, (sym p.0 ∙ is, refl)), p.1)

  pub sends_as : (n : Name) (w : WorldState) (new : World D) (b : Bool) → b ≡ does w (Submit n)
      → IsOf told failures stops_alone new (if b then after (after w (Submit n)) (Take n) else after w (Submit n)) → IsOf told failures stops_alone new (sent w n)
  sends_as n w new b e h = subst (λ t. IsOf told failures stops_alone new (if t then after (after w (Submit n)) (Take n) else after w (Submit n))) e h

  pub rest_drained : (k : ℕ) (n : Name) (old new : World D) → k ≡ 0 → Leads told failures stops_alone (IsDrained n) old new → Leads told failures stops_alone (Rests k n) old new
  rest_drained k n old new is h = λ w at. let d = h w at in (d.0, rests_as 0 k n w d.0 (sym is) d.1, d.2)

  pub rest_back : (k : ℕ) (n : Name) (old new : World D) → k ≡ 1 → Moves told failures stops_alone (λ w. back w n) old new → Leads told failures stops_alone (Rests k n) old new
  rest_back k n old new is h = λ w at. (back w n, rests_as 1 k n w (back w n) (sym is) refl, h w at)

  pub settles_begin : (n : Name) (world : World D) → Leads told failures stops_alone (Settles 0 n) world world
  settles_begin n world = λ w at. (w, refl, at)

  pub settles_go : (n : Name) (first old drain new : World D) (k : ℕ) → Leads told failures stops_alone (Settles k n) first old → Leads told failures stops_alone (IsDrained n) old drain
      → Moves told failures stops_alone (λ w. sent w n) drain new → Leads told failures stops_alone (Settles (k + 1) n) first new
  settles_go n first old drain new k gone drained sending = λ w at.
      let g = gone w at in
      let d = drained g.0 g.2 in
      (sent d.0 n, subst (λ j. Settles j n w (sent d.0 n)) (sym (add-one k)) (g.0, d.0, g.1, d.1, refl), sending d.0 d.2)

  -- ---- of each client

  pub each_begins : (Step : Name → WorldState → WorldState → Type 0) (world : World D) → Leads told failures stops_alone (Each Step 0) world world
  each_begins Step world = λ w at. (w, refl, at)

  pub each_goes : (Step : Name → WorldState → WorldState → Type 0) (first old new : World D) (k : ℕ) (n : Name) → n ≡ name_of (k + 1)
      → Leads told failures stops_alone (Each Step k) first old → Leads told failures stops_alone (Step n) old new → Leads told failures stops_alone (Each Step (k + 1)) first new
  each_goes Step first old new k n is gone step = λ w at.
      let g = gone w at in
      let s = step g.0 g.2 in
      (s.0, subst (λ j. Each Step j w s.0) (sym (add-one k)) (g.0, g.1, subst (λ m. Step m g.0 s.0) (is ∙ ap name_of (add-one k)) s.1), s.2)

  -- ---- of rounds

  pub rounds_begin : (clients x : ℕ) (world : World D) → Leads told failures stops_alone (λ w v. Rounds 0 clients x w x v) world world
  rounds_begin clients x world = λ w at. (w, (refl, refl), at)

  pub rounds_go : (clients k x y z : ℕ) (first old new : World D) → Leads told failures stops_alone (λ w v. Rounds k clients x w y v) first old
      → Leads told failures stops_alone (λ w v. Round clients y w z v) old new → Leads told failures stops_alone (λ w v. Rounds (k + 1) clients x w z v) first new
  rounds_go clients k x y z first old new gone round = λ w at.
      let g = gone w at in
      let r = round g.0 g.2 in
      (r.0, subst (λ j. Rounds j clients x w z r.0) (sym (add-one k)) (y, g.0, g.1, r.1), r.2)

  pub leads_as : (Step : ℕ → WorldState → WorldState → Type 0) (old new : World D) (j k : ℕ) → j ≡ k → Leads told failures stops_alone (Step j) old new → Leads told failures stops_alone (Step k) old new
  leads_as Step old new j k e l = subst (λ i. Leads told failures stops_alone (Step i) old new) e l
