use Rattle.ep_script.proofs.Escapes.{backslash, plain, escape_ends}
use Rattle.ep_script.proofs.texts.unescape.Goals as goal
use Rattle.ep_script.proofs.texts.unescape.Goals.{then-behind_backslash+in-Some+in_ok-push-in-Some, else-behind_backslash+then-unit-eq-BACKSLASH, else-behind_backslash+else-unit-eq-BACKSLASH+in_ok-push}

pub loop-unit-preserved : goal.loop-unit-preserved
loop-unit-preserved c =
    let below = c.loop-unit-test.true in
    let h = c.loop-unit.invariant in
    elim c.if-behind_backslash.branch [
      | then-behind_backslash+in-Some+in_ok-push-in-Some w ↦
          let k = rw w.if-behind_backslash.true at h in
          rw (w.plain-is, w.behind_backslash-is, w.in_ok-push-in-Some.ensures.ok) (escape_ends _ _ _ below w.in-Some.u w.in-Some.ensures k)
      | else-behind_backslash+then-unit-eq-BACKSLASH w ↦
          let k = rw w.if-behind_backslash.false at h in
          rw (w.plain-is, w.behind_backslash-is) (backslash _ _ _ below w.if-unit-eq-BACKSLASH.true k)
      | else-behind_backslash+else-unit-eq-BACKSLASH+in_ok-push w ↦
          let k = rw w.if-behind_backslash.false at h in
          rw (w.plain-is, w.behind_backslash-is, w.if-behind_backslash.false, w.in_ok-push.ensures.ok) (plain _ _ _ below w.if-unit-eq-BACKSLASH.false k)
    ]
