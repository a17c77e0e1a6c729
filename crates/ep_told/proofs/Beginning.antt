-- A walk from its first receive, up to the login or the resumption and on from there.
use Rattle.std.proofs.Common.{◌≡◌, ℕ, suc, ◌^◌, ◌<◌, ◌≤◌, Bool, true, false, if◌then◌else◌, List, [], ◌∷◌, ◌++◌, map, length, Option, Some, None, refl, sym, ap, ◌∙◌, subst, true≢false, append_assoc, append-nil, ◌⊎◌, inl, inr}
use Rattle.std.specs.Prelude.{◌==◌, Result, Ok, Err}
use Rattle.ep_units.specs.declared.grant.Grant.{Grant}
use Rattle.ep_units.specs.declared.session.Session.{Session}
use Rattle.ep_history.specs.History.{Birth, head}
use Rattle.ep_history.specs.Pad.{PadState, birth_at}
use Rattle.ep_history.specs.declared.pad_bad.PadBad.{PadBad}
use Rattle.ep_dir_records.specs.declared.dir_bad.DirBad.{DirBad}
use Rattle.ep_dir_records.specs.declared.ids.Drawn.{Drawn}
use Rattle.ep_fetches.specs.Told.{AreTold}
use Rattle.ep_pad_state.specs.declared.answers.CatchUp.{CatchUp}
use Rattle.ep_pad_state.specs.declared.answers.Welcome.{Welcome}
use Rattle.ep_pad.specs.Halls.{Answer}
use Rattle.ep_pad.specs.Histories.{calls_of as all_calls}
use Rattle.ep_pad.specs.Entries.{reply_of}
use Rattle.ep_pad.specs.declared.entries.PadEntry.{PadEntry}
use Rattle.ep_pad.specs.declared.entries.PadEntry.TheVariants as entry
use Rattle.ep_pad.specs.declared.entries.PadReply.{PadReply}
use Rattle.ep_pad.specs.declared.entries.PadReply.TheVariants as reply
use Rattle.ep_wire_words.specs.declared.bad.WireBad.{WireBad}
use Rattle.ep_wire_words.specs.declared.client.ClientMsg.{ClientMsg}
use Rattle.ep_wire_words.specs.declared.client.ClientMsg.TheVariants as msgs
use Rattle.ep_wire_words.specs.declared.client.Resume.{Resume}
use Rattle.ep_wire_words.specs.declared.server.ServerMsg.{ServerMsg}
use Rattle.ep_wire_words.specs.declared.server.ServerMsg.TheVariants as msg
use Rattle.ep_link.specs.declared.passed.LinkGot.{LinkGot}
use Rattle.ep_link.specs.declared.passed.LinkGot.TheVariants as got
use Rattle.ep_session.specs.Output.{said_by, said_of, place_at}
use Rattle.ep_session.specs.Session.{Did, Heard, Understood, Granted, Entered, Called, Duty, Greet, Begin, Ask, Enter, Login, Rejoin, Hear, Fetch, Say, Outcome, Then, Ends, Runs, begun, greeted, granted, entered, joining, welcomed, welcome_place, rejoined, rejoin_place, none_missed, vars, calls_of, admitted, is_short, wanting}
use Rattle.ep_session.specs.declared.end.End.{End}
use Rattle.ep_session.specs.declared.place.Place.{Place}
use Rattle.ep_session.specs.declared.ready.Ready.{Ready}
use Rattle.ep_session.proofs.Running.{not_both}
use Rattle.ep_session.proofs.Sent.{moved}
use Rattle.ep_told.specs.Telling.{Tells, TellsHistory}
use Rattle.ep_told.proofs.Along.{Goes, IsDue, IsTold, along, passed}

-- whichever session it is, all that was told is of one birth of the pad
abbrev pub AreOne : PadState → List Did → Type 0
AreOne pad log = (s : Session) → (k : ℕ) × (k ≤ length pad.births) × IsTold k (birth_at pad k) s log

one_passed : (pad : PadState) (did d : Did) (log : List Did) → did ≡ d → calls_of (d ∷ log) ≡ calls_of log → AreOne pad (did ∷ log) → AreOne pad log
one_passed pad did d log is none h s = let x = h s in (x.0, x.1, passed x.0 (birth_at pad x.0) s did d log is none x.2)

-- what the law says of a walk from outside
abbrev pub IsLaw : PadState → Outcome → List Did → Type 0
IsLaw pad out log = (place_at out).inside ≡ true → TellsHistory pad (place_at out) (said_of log)

law_passed : (pad : PadState) (out : Outcome) (did d : Did) (log : List Did) → did ≡ d → said_by d ≡ [] → IsLaw pad out log → IsLaw pad out (did ∷ log)
law_passed pad out did d log is none h inside = subst (TellsHistory pad (place_at out)) (sym (ap (λ x. said_by x ++ said_of log) is ∙ ap (λ l. l ++ said_of log) none)) (h inside)

outside : {Z : Type 0} (at : Place) (out : Outcome) → at.inside ≡ false → place_at out ≡ at → (place_at out).inside ≡ true → Z
outside at out o is inside = absurd (true≢false (sym inside ∙ ap (λ (p : Place). p.inside) is ∙ o))

greeted_place : (at : Place) (drawn : Drawn) (g : LinkGot) (n : ℕ) → place_at (greeted at drawn g n) ≡ at
greeted_place at drawn (got.Message text) n = refl
greeted_place at drawn got.Binary n = refl
greeted_place at drawn got.Nothing n = refl
greeted_place at drawn got.Closed n = refl
greeted_place at drawn got.Failed n = refl
greeted_place at drawn got.NoMemory n = refl

begun_place : (at : Place) (drawn : Drawn) (r : Result ClientMsg WireBad) → place_at (begun at drawn r) ≡ at
begun_place at drawn (Ok (msgs.Ready pad token sessions resume)) = first (is_short token)
  where
    first : (b : Bool) → place_at (admitted at drawn (record { pad = pad; token = token; sessions = sessions; resume = resume }) b) ≡ at
    first true = refl
    first false = refl
begun_place at drawn (Ok (msgs.Edit base change)) = refl
begun_place at drawn (Ok (msgs.Slide start granularity request)) = refl
begun_place at drawn (Ok msgs.Other) = refl
begun_place at drawn (Err bad) = refl

-- what a login entered
welcomed_law : (pad : PadState) (at to : Place) (more : List Duty) (did : Did) (log : List Did) (out : Outcome) (grant : Grant) (now : ℕ) (r : Result Welcome PadBad) → did ≡ Called (entry.Login grant now) (reply.Welcome r) → Then to more ≡ welcomed at grant r
    → AreOne pad (did ∷ log) → Runs to (more ++ []) log out → IsLaw pad out (did ∷ log)
welcomed_law pad at to more did log out grant now (Ok w) is same one r inside =
    let o = one w.session in
    let k = o.0 in
    let b = birth_at pad k in
    let place = welcome_place w in
    let h = subst (λ x. IsTold k b w.session (x ∷ log)) is o.2 in
    let entered = h.0 refl in
    let due = Say (vars grant w) ∷ Fetch ∷ Hear ∷ [] in
    let run : Runs place due log out = moved to place more due log out same [] r in
    let walk = λ (few : head b < 2 ^ 64). along k b w.session few place due log out refl ((λ ms cursor t. (refl, entered.doc, t)), λ n m. tt) h.1 run in (
      k,
      o.1,
      λ few. let g = walk few in
          subst (λ (s : Session). Tells b s (place_at out).start (said_of (did ∷ log)) (place_at out).rev) (sym g.same)
          (subst (λ (n : ℕ). Tells b w.session n (said_of (did ∷ log)) (place_at out).rev) (sym g.start)
          (subst (λ (x : Did). Tells b w.session w.rev (said_of (x ∷ log)) (place_at out).rev) (sym is) g.tells)),
    )
welcomed_law pad at to more did log out grant now (Err bad) is same one r inside = absurd (not_both to at more _ same)

missed_due : (c : CatchUp) (b : Birth) (s : Session) (rev : ℕ) (none : Bool) → IsDue b s rev (map Say (if none then msg.ReconnectNone c.session c.birth c.head c.head ∷ [] else []) ++ Fetch ∷ Hear ∷ [])
missed_due c b s rev true = ((λ ms cursor t. t), λ n m. tt)
missed_due c b s rev false = λ n m. tt

-- where a resumption came back
rejoined_law : (pad : PadState) (at to : Place) (more : List Duty) (did : Did) (log : List Did) (out : Outcome) (grant : Grant) (again : Resume) (now : ℕ) (r : Result CatchUp PadBad) → did ≡ Called (entry.Resume grant again.rev again.birth again.author now) (reply.CatchUp r) → Then to more ≡ rejoined at again.rev r
    → AreOne pad (did ∷ log) → Runs to (more ++ []) log out → IsLaw pad out (did ∷ log)
rejoined_law pad at to more did log out grant again now (Ok c) is same one r inside =
    let o = one c.session in
    let k = o.0 in
    let b = birth_at pad k in
    let place = rejoin_place again.rev c in
    let h = subst (λ x. IsTold k b c.session (x ∷ log)) is o.2 in
    let due = map Say (none_missed again.rev c) ++ Fetch ∷ Hear ∷ [] in
    let run : Runs place due log out = subst (λ d. Runs place d log out) (append-nil due) (moved to place more due log out same [] r) in
    let walk = λ (few : head b < 2 ^ 64). along k b c.session few place due log out refl (missed_due c b c.session again.rev (again.rev == c.head)) h.1 run in (
      k,
      o.1,
      λ few. let g = walk few in
          subst (λ (s : Session). Tells b s (place_at out).start (said_of (did ∷ log)) (place_at out).rev) (sym g.same)
          (subst (λ (n : ℕ). Tells b c.session n (said_of (did ∷ log)) (place_at out).rev) (sym g.start)
          (subst (λ (x : Did). Tells b c.session again.rev (said_of (x ∷ log)) (place_at out).rev) (sym is) g.tells)),
    )
rejoined_law pad at to more did log out grant again now (Err bad) is same one r inside = absurd (not_both to at more _ same)

-- What is said of a walk from outside by what its calls told: it is said where the walk ends outside, of a login and of a
-- resumption that are answered, and no less behind what says nothing
module _ (Told : List Did → Type 0) (Says : Outcome → List Did → Type 0)
    (skip_told : (did d : Did) (log : List Did) → did ≡ d → calls_of (d ∷ log) ≡ calls_of log → Told (did ∷ log) → Told log)
    (skip : (out : Outcome) (did d : Did) (log : List Did) → did ≡ d → said_by d ≡ [] → Says out log → Says out (did ∷ log))
    (leaves : (at : Place) (out : Outcome) (log : List Did) → at.inside ≡ false → place_at out ≡ at → Says out log)
    (logs_in : (at to : Place) (more : List Duty) (did : Did) (log : List Did) (out : Outcome) (grant : Grant) (now : ℕ) (r : Result Welcome PadBad) → did ≡ Called (entry.Login grant now) (reply.Welcome r)
    → Then to more ≡ welcomed at grant r → Told (did ∷ log) → Runs to (more ++ []) log out → Says out (did ∷ log))
    (comes_back : (at to : Place) (more : List Duty) (did : Did) (log : List Did) (out : Outcome) (grant : Grant) (again : Resume) (now : ℕ) (r : Result CatchUp PadBad) → did ≡ Called (entry.Resume grant again.rev again.birth again.author now) (reply.CatchUp r)
    → Then to more ≡ rejoined at again.rev r → Told (did ∷ log) → Runs to (more ++ []) log out → Says out (did ∷ log)) where
  -- it ended outside
  ended : (at to : Place) (e : End) (out o : Outcome) (log : List Did) → at.inside ≡ false → Ends to e ≡ o → place_at o ≡ at → out ≡ Ends to e → Says out log
  ended at to e out o log outer same is isout = leaves at out log outer (ap place_at isout ∙ ap place_at same ∙ is)

  joined : (at : Place) (grant : Grant) (log : List Did) (out : Outcome) → at.inside ≡ false → (resume : Option Resume) → Told log → Runs at (joining grant resume ∷ []) log out → Says out log
  joined at grant [] out outer resume one r = leaves at out [] outer (ap place_at r)
  joined at grant (did ∷ log) out outer None one (inl (to, more, (now, g, is, same), r)) = logs_in at to more did log out grant now g is same one r
  joined at grant (did ∷ log) out outer (Some again) one (inl (to, more, (now, g, is, same), r)) = comes_back at to more did log out grant again now g is same one r
  joined at grant (did ∷ log) out outer None one (inr (to, e, (now, g, is, same), nil, isout)) = refused g same
    where
      refused : (g : Result Welcome PadBad) → Ends to e ≡ welcomed at grant g → Says out (did ∷ log)
      refused (Ok w) same = absurd (not_both _ to _ e (sym same))
      refused (Err bad) same = ended at to e out _ (did ∷ log) outer same refl isout
  joined at grant (did ∷ log) out outer (Some again) one (inr (to, e, (now, g, is, same), nil, isout)) = refused g same
    where
      refused : (g : Result CatchUp PadBad) → Ends to e ≡ rejoined at again.rev g → Says out (did ∷ log)
      refused (Ok c) same = absurd (not_both _ to _ e (sym same))
      refused (Err bad) same = ended at to e out _ (did ∷ log) outer same refl isout

  enters : (at : Place) (grant : Grant) (resume : Option Resume) (log : List Did) (out : Outcome) → at.inside ≡ false → Told log → Runs at (Enter grant resume ∷ []) log out → Says out log
  enters at grant resume [] out outer one r = leaves at out [] outer (ap place_at r)
  enters at grant resume (did ∷ log) out outer one (inl (to, more, (g, is, same), r)) = go g same
    where
      go : (x : Answer) → Then to more ≡ entered at grant resume x → Says out (did ∷ log)
      go (Ok id) same = skip out did (Entered (wanting grant resume) g) log is refl (joined at grant log out outer resume (skip_told did (Entered (wanting grant resume) g) log is refl one) (moved to at more (joining grant resume ∷ []) log out same [] r))
      go (Err bad) same = absurd (not_both to at more _ same)
  enters at grant resume (did ∷ log) out outer one (inr (to, e, (g, is, same), nil, isout)) = go g same
    where
      go : (x : Answer) → Ends to e ≡ entered at grant resume x → Says out (did ∷ log)
      go (Ok id) same = absurd (not_both _ to _ e (sym same))
      go (Err bad) same = ended at to e out _ (did ∷ log) outer same refl isout

  asks : (at : Place) (drawn : Drawn) (ready : Ready) (log : List Did) (out : Outcome) → at.inside ≡ false → Told log → Runs at (Ask drawn ready ∷ []) log out → Says out log
  asks at drawn ready [] out outer one r = leaves at out [] outer (ap place_at r)
  asks at drawn ready (did ∷ log) out outer one (inl (to, more, (now, g, is, same), r)) = go g same
    where
      go : (x : Result Grant DirBad) → Then to more ≡ granted at ready x → Says out (did ∷ log)
      go (Ok grant) same = skip out did _ log is refl (enters at grant ready.resume log out outer (skip_told did _ log is refl one) (moved to at more (Enter grant ready.resume ∷ []) log out same [] r))
      go (Err bad) same = absurd (not_both to at more _ same)
  asks at drawn ready (did ∷ log) out outer one (inr (to, e, (now, g, is, same), nil, isout)) = go g same
    where
      go : (x : Result Grant DirBad) → Ends to e ≡ granted at ready x → Says out (did ∷ log)
      go (Ok grant) same = absurd (not_both _ to _ e (sym same))
      go (Err bad) same = ended at to e out _ (did ∷ log) outer same refl isout

  begins : (at : Place) (drawn : Drawn) (text : List ℕ) (log : List Did) (out : Outcome) → at.inside ≡ false → Told log → Runs at (Begin drawn text ∷ []) log out → Says out log
  begins at drawn text [] out outer one r = leaves at out [] outer (ap place_at r)
  begins at drawn text (did ∷ log) out outer one (inl (to, more, (g, reads, is, same), r)) = go g same
    where
      go : (x : Result ClientMsg WireBad) → Then to more ≡ begun at drawn x → Says out (did ∷ log)
      go (Ok (msgs.Ready id token sessions resume)) same = first (is_short token) same
        where
          ready : Ready
          ready = record { pad = id; token = token; sessions = sessions; resume = resume }

          first : (b : Bool) → Then to more ≡ admitted at drawn ready b → Says out (did ∷ log)
          first true so = skip out did (Understood text g) log is refl (asks at drawn ready log out outer (skip_told did (Understood text g) log is refl one) (moved to at more (Ask drawn ready ∷ []) log out so [] r))
          first false so = absurd (not_both to at more _ so)
      go (Ok (msgs.Edit base change)) same = absurd (not_both to at more _ same)
      go (Ok (msgs.Slide start granularity request)) same = absurd (not_both to at more _ same)
      go (Ok msgs.Other) same = absurd (not_both to at more _ same)
      go (Err bad) same = absurd (not_both to at more _ same)
  begins at drawn text (did ∷ log) out outer one (inr (to, e, (g, reads, is, same), nil, isout)) = ended at to e out (begun at drawn g) (did ∷ log) outer same (begun_place at drawn g) isout

  pub from_outside : (at : Place) (drawn : Drawn) (log : List Did) (out : Outcome) → at.inside ≡ false → Told log → Runs at (Greet drawn ∷ []) log out → Says out log
  from_outside at drawn [] out outer one r = leaves at out [] outer (ap place_at r)
  from_outside at drawn (did ∷ log) out outer one (inl (to, more, (g, n, is, same), r)) = go g same (λ again. from_outside at drawn log out outer (skip_told did (Heard g n) log is refl one) again)
    where
      rest : Told log
      rest = skip_told did (Heard g n) log is refl one

      go : (x : LinkGot) → Then to more ≡ greeted at drawn x n → (Runs at (Greet drawn ∷ []) log out → Says out log) → Says out (did ∷ log)
      go (got.Message text) same ih = skip out did (Heard g n) log is refl (begins at drawn text log out outer rest (moved to at more (Begin drawn text ∷ []) log out same [] r))
      go got.Binary same ih = absurd (not_both to at more _ same)
      go got.Nothing same ih = skip out did (Heard g n) log is refl (ih (moved to at more (Greet drawn ∷ []) log out same [] r))
      go got.Closed same ih = absurd (not_both to at more _ same)
      go got.Failed same ih = absurd (not_both to at more _ same)
      go got.NoMemory same ih = absurd (not_both to at more _ same)
  from_outside at drawn (did ∷ log) out outer one (inr (to, e, (g, n, is, same), nil, isout)) = ended at to e out (greeted at drawn g n) (did ∷ log) outer same (greeted_place at drawn g n) isout

-- of a pad, all of whose births tell what was told
pub tells_one : (pad : PadState) (at : Place) (drawn : Drawn) (log : List Did) (out : Outcome) → at.inside ≡ false → AreOne pad log → Runs at (Greet drawn ∷ []) log out → IsLaw pad out log
tells_one pad = from_outside (AreOne pad) (IsLaw pad) (one_passed pad) (law_passed pad) (λ at out log. outside at out) (welcomed_law pad) (rejoined_law pad)

-- each of these calls was refused
abbrev pub Fail : List (PadEntry × PadReply) → Type 0
Fail [] = Unit {0}
Fail (c ∷ cs) = ((why : PadBad) × (reply_of c.1 ≡ Err why)) × Fail cs

-- who was refused each call is outside
pub stays_outside : (at : Place) (drawn : Drawn) (log : List Did) (out : Outcome) → at.inside ≡ false → Fail (calls_of log) → Runs at (Greet drawn ∷ []) log out → (place_at out).inside ≡ true → ⊥
stays_outside = from_outside (λ log. Fail (calls_of log)) (λ out log. (place_at out).inside ≡ true → ⊥) skipped (λ out did d log is none h. h) (λ at out log. outside at out) no_login no_return
  where
    skipped : (did d : Did) (log : List Did) → did ≡ d → calls_of (d ∷ log) ≡ calls_of log → Fail (calls_of (did ∷ log)) → Fail (calls_of log)
    skipped did d log is none fail = subst Fail (ap (λ x. calls_of (x ∷ log)) is ∙ none) fail

    no_login : (at to : Place) (more : List Duty) (did : Did) (log : List Did) (out : Outcome) (grant : Grant) (now : ℕ) (r : Result Welcome PadBad) → did ≡ Called (entry.Login grant now) (reply.Welcome r)
        → Then to more ≡ welcomed at grant r → Fail (calls_of (did ∷ log)) → Runs to (more ++ []) log out → (place_at out).inside ≡ true → ⊥
    no_login at to more did log out grant now (Ok w) is same fail r inside = let h = subst (λ x. Fail (calls_of (x ∷ log))) is fail in let e = h.0.1 in absurd cc
    no_login at to more did log out grant now (Err bad) is same fail r inside = absurd (not_both to at more _ same)

    no_return : (at to : Place) (more : List Duty) (did : Did) (log : List Did) (out : Outcome) (grant : Grant) (again : Resume) (now : ℕ) (r : Result CatchUp PadBad) → did ≡ Called (entry.Resume grant again.rev again.birth again.author now) (reply.CatchUp r)
        → Then to more ≡ rejoined at again.rev r → Fail (calls_of (did ∷ log)) → Runs to (more ++ []) log out → (place_at out).inside ≡ true → ⊥
    no_return at to more did log out grant again now (Ok c) is same fail r inside = let h = subst (λ x. Fail (calls_of (x ∷ log))) is fail in let e = h.0.1 in absurd cc
    no_return at to more did log out grant again now (Err bad) is same fail r inside = absurd (not_both to at more _ same)
