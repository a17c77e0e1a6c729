-- Requests that are served.
use Rattle.std.proofs.Common.{◌≡◌, ◌≢◌, ℕ, List, [], IfOk, IfSome, refl, sym, subst, Option, None, Result, Ok, Err}
use Rattle.atomic_table.specs.Seated.{TableId}
use Rattle.ep_units.specs.Text.{Text}
use Rattle.ep_cell.specs.Passes.{Known}
use Rattle.ep_groups.specs.declared.entries.DirEntry.{DirEntry}
use Rattle.ep_groups.specs.declared.entries.DirReply.{DirReply}
use Rattle.ep_pad.specs.declared.entries.PadEntry.{PadEntry}
use Rattle.ep_pad.specs.declared.entries.PadReply.{PadReply}
use Rattle.ep_pad.specs.declared.wanted.Wanted.{Wanted}
use Rattle.ep_pad.specs.Halls.{Answer}
use Rattle.ep_ask.specs.Parameters.{Read}
use Rattle.ep_ask.specs.declared.bad.ApiBad.{ApiBad}
use Rattle.ep_ask.specs.declared.bad.ApiBad.TheVariants.{NoMemory}
use Rattle.ep_outside.specs.declared.keeper.Pair.{Pair}
use Rattle.ep_ask.specs.Requests.{call_in}
use Rattle.ep_ask.specs.declared.call.Call.{Call}
use Rattle.ep_ask.specs.declared.answer.Data.{Data}
use Rattle.ep_api.specs.declared.answering.Answered.{Answered}
use Rattle.ep_api.specs.Tasks.{Task, refuse}
use Rattle.ep_api.specs.Functions.{task_of}
use Rattle.ep_api.specs.Passes.{Does, Seen, Stay, seen}
use Rattle.ep_api.specs.Served.{IsBare, Serves, Tells, request_task, seen_of}
use Rattle.ep_api.proofs.Doing.{rests}

-- two facts of a value
pub both_ok : {A E : Type 0} (P Q R : A → Type 0) (r : Result A E) → ((a : A) → P a → Q a → R a) → IfOk r P → IfOk r Q → IfOk r R
both_ok P Q R (Ok a) f p q = f a p q
both_ok P Q R (Err e) f p q = tt

-- nothing holds of what isn't there
pub none_holds : {A : Type 0} (P : A → Type 0) (o : Option A) → o ≡ None → IfSome o P
none_holds {A} P o none = let Q : Option A → Type 0 = λ x. IfSome x P in subst Q (sym none) tt

-- passes that have made no call before
pub from_fresh : {A : Type 0} (d : List (DirEntry × DirReply)) (h : List (Wanted × Answer)) (ps : List Stay) (t : Option (List ℕ)) (task : Task A) (r : Result A ApiBad) (now : Seen)
    → d ≡ [] → h ≡ [] → ps ≡ [] → Does (seen d h ps t) task r now → Does (seen [] [] [] t) task r now
from_fresh d h ps t task r now p q s does =
    let D : List (DirEntry × DirReply) → Type 0 = λ x. Does (seen x h ps t) task r now in
    let H : List (Wanted × Answer) → Type 0 = λ x. Does (seen [] x ps t) task r now in
    let P : List Stay → Type 0 = λ x. Does (seen [] [] x t) task r now in
    subst P s (subst H q (subst D p does))

-- what a request that is read does
pub of_call : (read : Read Call) (call : Call) (now : ℕ) (old new : Seen) (r : Result Data ApiBad) → read ≡ Ok call → Does old (task_of now call) r new → Does old (request_task now read) r new
of_call read call now old new r is does =
    let P : Read Call → Type 0 = λ x. Does old (request_task now x) r new in
    subst P (sym is) does

-- what a request that is refused does
pub of_refusal : (read : Read Call) (why : ApiBad) (now : ℕ) (a : Seen) → read ≡ Err why → Does a (request_task now read) (Err why) a
of_refusal read why now a is =
    let P : Read Call → Type 0 = λ x. Does a (request_task now x) (Err why) a in
    subst P (sym is) (rests a (refuse why) (Err why) (refl, refl))

module _ {Hall Desk Pass : Type 0} (hall_known : Hall → Known Wanted Answer) (desk_known : Desk → Known DirEntry DirReply)
    (known : Pass → Known PadEntry PadReply) (name : Pass → Text) (cell : Pass → TableId) where
  -- no pass shows nothing
  pub seen_of-bare : (a : Answered Hall Desk Pass) (t : Option (List ℕ)) → IsBare a → seen_of hall_known desk_known known name cell a t ≡ seen [] [] [] t
  seen_of-bare a t bare =
      let h = bare.hall in
      let d = bare.desk in
      let p = bare.pads in
      rw (h, d, p) refl

  -- a request that is refused by itself
  pub serves_refusal : (path : List ℕ) (pairs : List Pair) (key : List ℕ) (now : ℕ) (t : Option (List ℕ)) (why : ApiBad) (a : Answered Hall Desk Pass)
      → (why ≢ NoMemory → call_in path pairs key ≡ Err why) → (why ≢ NoMemory) × Tells (Err why) a.reply → IsBare a
      → Serves hall_known desk_known known name cell path pairs key now t t a
  serves_refusal path pairs key now t why a is tells bare = record {
    outcome = Err why;
    does =
        let P : Seen → Type 0 = λ s. Does (seen [] [] [] t) (request_task now (call_in path pairs key)) (Err why) s in
        subst P (sym (seen_of-bare a t bare)) (of_refusal (call_in path pairs key) why now (seen [] [] [] t) (is tells.0));
    tells = tells.1;
  }
