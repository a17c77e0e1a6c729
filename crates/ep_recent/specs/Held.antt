-- Working words of private contracts: what the last revisions in code are, over any disk.
use Rattle.std.specs.Prelude.{◌+◌, ◌-◌, ◌<◌, ◌^◌, List, [], ◌∷◌, map, Option, MatchOption}
use Rattle.std.specs.VecDeque.{deque_len, deque_capacity}
use Rattle.ep_cs.specs.Doc.{Doc}
use Rattle.ep_history.specs.declared.rev.Rev.{Rev}
use Rattle.ep_recent.specs.Recent.{LastRevs, Leads}
use Rattle.ep_recent.specs.declared.recent.Kept.{Kept}
use Rattle.ep_recent.specs.declared.recent.Recent.TheInside as recent

-- they lead on from the first document that is kept
abbrev pub AreLed : List (Rev × Option Doc) → Option Doc → Type 0
AreLed [] head = Unit {0}
AreLed (e ∷ es) head = MatchOption e.1 (AreLed es head) (λ d. Leads d (e ∷ es) head)

abbrev pub entry : Kept → Rev × Option Doc
entry k = (k.rev, k.before)

abbrev pub held : recent.Inside → LastRevs
held r = record {
  first = r.first;
  kept = map entry r.kept.items;
  head = r.head;
  room = deque_capacity r.kept - deque_len r.kept;
}

pub record IsHeld (r : recent.Inside) : Type 0 where
  pub led : AreLed (map entry r.kept.items) r.head
  pub few : r.first + deque_len r.kept < 2 ^ 64
