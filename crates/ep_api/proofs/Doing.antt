-- Tasks that are carried out one behind another.
use Rattle.std.proofs.Common.{◌≡◌, ℕ, List, [], ◌∷◌, ◌++◌, refl, sym, ap, ◌∙◌, subst, append_assoc, Option, Result, Ok, Err}
use Rattle.std.proofs.lemmas.List.{append-nil}
use Rattle.ep_ask.specs.declared.bad.ApiBad.{ApiBad}
use Rattle.ep_api.specs.Tasks.{Did, Task, Goes, Stops, ◌>>=◌}
use Rattle.ep_api.specs.Passes.{Adds, Does, DrawsAll, Seen, asked, drawn, entered, stays}
use Rattle.ep_api.proofs.Appending.{asked-append, drawn-append, entered-append, stays-append}

-- draws, and then draws
pub DrawsAll-append : (ns ms : List ℕ) (t u x : Option (List ℕ)) → DrawsAll t u ns → DrawsAll u x ms → DrawsAll t x (ns ++ ms)
DrawsAll-append [] ms t u x is more = let P : Option (List ℕ) → Type 0 = λ o. DrawsAll o x ms in subst P is more
DrawsAll-append (n ∷ ns) ms t u x first more = (first.0, first.1, DrawsAll-append ns ms first.0 u x first.2 more)

seen-append : {A : Type 0} (a b c xs ys zs : List A) → b ≡ a ++ xs → c ≡ b ++ ys → zs ≡ xs ++ ys → c ≡ a ++ zs
seen-append a b c xs ys zs p q r = q ∙ (ap (λ l. l ++ ys) p ∙ (append_assoc a xs ys ∙ ap (λ l. a ++ l) (sym r)))

pub Adds-append : (a b c : Seen) (xs ys : List Did) → Adds a xs b → Adds b ys c → Adds a (xs ++ ys) c
Adds-append a b c xs ys p q = record {
  desk = seen-append a.desk b.desk c.desk (asked xs) (asked ys) (asked (xs ++ ys)) p.desk q.desk (asked-append xs ys);
  hall = seen-append a.hall b.hall c.hall (entered xs) (entered ys) (entered (xs ++ ys)) p.hall q.hall (entered-append xs ys);
  pads = seen-append a.pads b.pads c.pads (stays xs) (stays ys) (stays (xs ++ ys)) p.pads q.pads (stays-append xs ys);
  draws = let P : List ℕ → Type 0 = λ ns. DrawsAll a.to_come c.to_come ns in subst P (sym (drawn-append xs ys)) (DrawsAll-append (drawn xs) (drawn ys) a.to_come b.to_come c.to_come p.draws q.draws);
}

pub Adds-none : (a : Seen) → Adds a [] a
Adds-none a = record {
  desk = sym (append-nil a.desk);
  hall = sym (append-nil a.hall);
  pads = sym (append-nil a.pads);
  draws = refl;
}

-- a task, and then what goes on from its value
pub goes : {A B : Type 0} (a b c : Seen) (p : Task A) (f : A → Task B) (x : A) (r : Result B ApiBad) → Does a p (Ok x) b → Does b (f x) r c → Does a (p >>= f) r c
goes a b c p f x r first next = record {
  log = first.log ++ next.log;
  adds = Adds-append a b c first.log next.log first.adds next.adds;
  comes = Goes x first.log next.log first.comes next.comes refl;
}

-- a task that is refused
pub stops : {A B : Type 0} (a b : Seen) (p : Task A) (f : A → Task B) (why : ApiBad) → Does a p (Err why) b → Does a (p >>= f) (Err why) b
stops a b p f why first = record { log = first.log; adds = first.adds; comes = Stops why first.comes refl }

-- nothing is done
pub rests : {A : Type 0} (a : Seen) (p : Task A) (r : Result A ApiBad) → p [] r → Does a p r a
rests a p r comes = record { log = []; adds = Adds-none a; comes = comes }

-- a task, and nothing more behind it
pub ends : {A B : Type 0} (a b : Seen) (p : Task A) (f : A → Task B) (x : A) (r : Result B ApiBad) → Does a p (Ok x) b → f x [] r → Does a (p >>= f) r b
ends a b p f x r first next = goes a b b p f x r first (rests b (f x) r next)
