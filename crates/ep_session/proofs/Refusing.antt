-- What is refused where no pad is.
use Rattle.std.proofs.Common.{◌≡◌, Bool, true, false, List, [], ◌∷◌, ◌++◌, Option, Some, None, refl}
use Rattle.std.specs.Prelude.{not, ◌&&◌, nat_le, length, if◌then◌else◌}
use Rattle.ep_units.specs.declared.grant.Grant.{Grant}
use Rattle.ep_history.specs.Pad.{PadState, live_count, has_live}
use Rattle.ep_history.specs.Refusals.{fault_if, first_fault, full_faults, is_other, login_fault, makes_none, resume_fault}
use Rattle.ep_history.specs.declared.pad_bad.PadBad.{PadBad}
use Rattle.ep_history.specs.declared.pad_bad.PadBad.TheVariants.{Denied, Full, Gone}
use Rattle.ep_wire_words.specs.declared.client.Resume.{Resume}
use Rattle.ep_session.specs.Ends.{absent_fault, may_make}

pub no_login : (pad : PadState) (grant : Grant) → pad.present ≡ false → may_make grant None ≡ false → login_fault pad grant ≡ Some (absent_fault grant None)
no_login pad grant absent none = rw absent (go (makes_none grant) none) where
  go : (b : Bool) → not b ≡ false → first_fault (fault_if b (Denied 4) ∷ fault_if false (Denied 6) ∷ full_faults pad grant.author) ≡ Some (Denied 4)
  go true e = refl
  go false e = absurd cc

-- of two that aren't there nothing is refused
past : (a b : Option PadBad) (rest : List (Option PadBad)) → first_fault (a ∷ b ∷ []) ≡ None → first_fault (a ∷ b ∷ rest) ≡ first_fault rest
past None None rest e = refl
past None (Some y) rest e = absurd cc
past (Some x) b rest e = absurd cc

pub no_return : (pad : PadState) (grant : Grant) (again : Resume) → pad.present ≡ false → first_fault (full_faults pad grant.author) ≡ None
    → resume_fault pad grant again.rev again.birth again.author ≡ Some (absent_fault grant (Some again))
no_return pad grant again absent room = rw absent (go (is_other grant.author again.author) _) where
  rest : List (Option PadBad) → List (Option PadBad)
  rest fs = full_faults pad grant.author ++ fs

  go : (b : Bool) → (fs : List (Option PadBad)) → first_fault (fault_if false (Denied 6) ∷ fault_if b (Denied 7) ∷ rest (Some Gone ∷ fs)) ≡ Some (if b then Denied 7 else Gone)
  go true fs = refl
  go false fs = past (fault_if (nat_le pad.limits.live (live_count pad.sessions) && not (has_live grant.author pad.sessions)) (Full pad.limits.live)) (fault_if (nat_le pad.limits.logins (length pad.sessions)) (Full pad.limits.logins)) (Some Gone ∷ fs) room
