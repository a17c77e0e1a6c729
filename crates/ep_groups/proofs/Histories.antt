-- A history with one more call.
use Rattle.std.specs.Prelude.{◌≡◌, Bool, List, [], ◌∷◌, ◌++◌}
use Rattle.std.proofs.Common.{sym, refl, subst, ◌∙◌}
use Rattle.ep_dir_records.specs.Answers.{Seen, Tells}
use Rattle.ep_groups.specs.History.{Step, Runs, Stands}
use Rattle.ep_groups.specs.declared.entries.DirEntry.{DirEntry}
use Rattle.ep_groups.specs.declared.entries.DirReply.{DirReply}

-- no call is made yet, in the state of this keeper
pub begun : {K : Type 0} (always_tells : K → Bool) (keeper : K) (s : Seen) → Tells s → s.always_tells ≡ always_tells keeper → Stands always_tells s s []
begun always_tells keeper s t is = (record { told = t; telling = λ all. is ∙ all keeper }, refl)

runs_on : (first last next : Seen) (e : DirEntry) (r : DirReply) (h : List (DirEntry × DirReply)) → Runs first h last → Step last next e r → Tells next → Runs first (h ++ (e, r) ∷ []) next
runs_on first last next e r [] same s t = let P : Seen → Type 0 = λ x. (mid : Seen) × Step x mid e r × Tells mid × (mid ≡ next) in subst P (sym same) (next, s, t, refl)
runs_on first last next e r (c ∷ cs) run s t = (run.0, run.1, run.2, runs_on run.0 last next e r cs run.3 s t)

pub stands_on : {K : Type 0} (always_tells : K → Bool) (first last next : Seen) (e : DirEntry) (r : DirReply) (h : List (DirEntry × DirReply)) → Stands always_tells first last h → Step last next e r → Tells next → Stands always_tells first next (h ++ (e, r) ∷ [])
stands_on always_tells first last next e r h run s t = (run.0, runs_on first last next e r h run.1 s t)
