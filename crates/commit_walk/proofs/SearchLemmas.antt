-- A search: ways that do not pass the sought name lead to all that is known.
use Rattle.std.proofs.Common.{◌≡◌, ⊎_elim, ◌≤◌, ◌<◌, ◌+◌, ◌∷◌, [], ℕ, List, length, take, get_or, Contains, Some, sym, ◌∙◌, ap, subst, arith}
use Rattle.std.specs.List.{slice_get}
use Rattle.std.proofs.lemmas.List.{get_or-take, length-map, length-take-le}
use Rattle.std.proofs.lemmas.Option.{get_or_from_slice_get, slice_get-get_or, slice_get_within}
use Rattle.gb_text.specs.declared.id.Name.{Name}
use Rattle.object_store.specs.Held.{Objects}
use Rattle.commit_walk.specs.Answers.{ReadsBelow}
use Rattle.commit_walk.specs.Below.{AreBelow, IsBelow, head, names_of, parent}
use Rattle.commit_walk.specs.Distinct.{AreDistinct}
use Rattle.commit_walk.specs.Queues.{Adds}
use Rattle.commit_walk.specs.Reaches.{Reached, Seeks, TurnedIn, a_commit, known, no_commit}
use Rattle.commit_walk.specs.Searches.{IsOnWay, ReadsUntil, onward, start}
use Rattle.commit_walk.specs.declared.below.Met.{Met}
use Rattle.commit_walk.specs.declared.reach.Reach.{Reach}
use Rattle.commit_walk.proofs.DistinctLemmas.{AreDistinct-nil, AreDistinct-take, Contains-first, Contains-nil, Contains-one, Contains-take, length-distinct}
use Rattle.commit_walk.proofs.ReachLemmas.{name_is_known, stands_still}

-- a way leads down
pub way_below : (objects : Objects) (high low : Name) {name : Name} → IsOnWay objects high low name → IsBelow objects (high ∷ []) name
way_below objects high low start = head (Contains-first high [])
way_below objects high low (onward w _ p) = parent (way_below objects high low w) p

-- what is read before a name is met lies below the other
pub reads_below : (objects : Objects) (high low : Name) (before after : ℕ) → ReadsUntil objects high low before after → ReadsBelow objects (high ∷ []) before after
reads_below objects high low before after r = record { names = r.names; once = r.once; each = λ name c. way_below objects high low (r.each name c); few = r.few }

-- at most one object is read for each commit of a whole walk
pub few_reads : (objects : Objects) (heads : List Name) (walk : List Met) (before after : ℕ) → AreBelow objects heads walk → ReadsBelow objects heads before after → after ≤ before + length walk
few_reads objects heads walk before after all reads =
    let few = length-distinct reads.names (names_of walk) reads.once (λ name has. all.all name (reads.each name has)) in
    omega (arith, few, reads.few, length-map walk (λ (met : Met). met.name))

-- and for each commit below the high name before the low one is met
pub few_searched : (objects : Objects) (high low : Name) (walk : List Met) (before after : ℕ) → AreBelow objects (high ∷ []) walk → ReadsUntil objects high low before after
    → after ≤ before + length walk
few_searched objects high low walk before after all reads = few_reads objects (high ∷ []) walk before after all (reads_below objects high low before after reads)

-- no name was read
pub reads_nothing : (objects : Objects) (high low : Name) (before after : ℕ) → after ≤ before → ReadsUntil objects high low before after
reads_nothing objects high low before after same = record {
  names = [];
  once = AreDistinct-nil;
  each = λ name c. absurd (Contains-nil name c);
  not_low = λ c. Contains-nil low c;
  last = λ place name less at p. omega (arith, less);
  few = omega (arith, same);
}

-- an element of the first of a list
get_take : (names : List Name) (done place : ℕ) (name : Name) → done ≤ length names → slice_get (take done names) place ≡ Some name → (place < done) × (slice_get names place ≡ Some name)
get_take names done place name few at =
    let there : place < length (take done names) = slice_get_within (take done names) place name at in
    let within : place < done = omega (arith, there, length-take-le done names few) in
    let same : get_or names place name ≡ name = sym (get_or-take done names place name within) ∙ get_or_from_slice_get (take done names) place name name at in
    (within, slice_get-get_or names place name (omega (arith, within, few)) ∙ ap Some same)

module _ (objects : Objects) (top sought : Name) where
  pub Seeks-start : (old : List Name) (reach : Reach) → old ≡ [] → Adds old (top ∷ []) (known reach) → Seeks objects top sought reach 0
  Seeks-start old reach none adds = record {
    way = λ name c. ⊎_elim
        (λ (h : Contains old name). absurd (omega (arith, h.1, ap length none)))
        (λ (h : Contains (top ∷ []) name). subst (IsOnWay objects top sought) (Contains-one top name h) start)
        (adds.only name c);
    not_read = λ place within at. omega (arith, within);
    last = λ place name within at p. omega (arith, within);
  }

  -- a name more may be read, where the sought one is not known
  pub Seeks-next : (tops : List Name) (reach : Reach) (done : ℕ) → Seeks objects top sought reach done → Reached objects tops reach done → (Contains (known reach) sought → ⊥) → Seeks objects top sought reach (done + 1)
  Seeks-next tops reach done s r apart = record {
    way = s.way;
    not_read = λ place within at. apart (name_is_known (known reach) place sought at);
    last = λ place name within at p. apart (r.parents_known place name sought (omega (arith, within)) at p);
  }

  pub Seeks-turn : (old new : Reach) (name : Name) (done : ℕ) → Seeks objects top sought old (done + 1) → slice_get (known old) done ≡ Some name → (Contains (known old) sought → ⊥) → TurnedIn objects old new name → Seeks objects top sought new (done + 1)
  Seeks-turn old new name done s at apart (a_commit met commit is adds walk wrong) =
      let within : done < length (known old) = slice_get_within (known old) done name at in
      let here : Contains (known old) met.name = subst (Contains (known old)) (sym is) (name_is_known (known old) done name at) in
      record {
        way = λ n c. ⊎_elim
            (λ (h : Contains (known old) n). s.way n h)
            (λ (h : Contains met.parents n). onward (s.way met.name here) (λ e. apart (subst (Contains (known old)) e here)) (record { commit = commit.commit; held = commit.held; names = subst (λ (l : List Name). Contains l n) commit.parents h }))
            (adds.only n c);
        not_read = λ place less there. s.not_read place less (stands_still (known old) met.parents (known new) place sought adds (omega (arith, less, within)) there);
        last = λ place n less there p. s.last place n less (stands_still (known old) met.parents (known new) place n adds (omega (arith, less, within)) there) p;
      }
  Seeks-turn old new name done s at apart (no_commit f _ names walk wrong) = record {
    way = λ n c. s.way n (subst (λ (l : List Name). Contains l n) names c);
    not_read = λ place less there. s.not_read place less (ap (λ (l : List Name). slice_get l place) (sym names) ∙ there);
    last = λ place n less there p. s.last place n less (ap (λ (l : List Name). slice_get l place) (sym names) ∙ there) p;
  }

  -- so many names were read
  pub reads_until : (reach : Reach) (done before after : ℕ) → AreDistinct (known reach) → Seeks objects top sought reach done → done ≤ length (known reach) → after ≤ before + done → ReadsUntil objects top sought before after
  reads_until reach done before after once s few reads =
      let count : length (take done (known reach)) ≡ done = length-take-le done (known reach) few in
      record {
        names = take done (known reach);
        once = AreDistinct-take done (known reach) once;
        each = λ name c. s.way name (Contains-take done (known reach) name c);
        not_low = λ c.
            let found = get_take (known reach) done c.0 sought few (slice_get-get_or (take done (known reach)) c.0 sought c.1 ∙ ap Some c.2) in
            s.not_read c.0 found.0 found.1;
        last = λ place name less at p. s.last place name (omega (arith, less, count)) (get_take (known reach) done place name few at).1 p;
        few = omega (arith, reads, count);
      }
