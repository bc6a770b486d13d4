-- An exchange over the refs that were listed is done, or ends at an entity.
use Rattle.std.proofs.Common.{◌≡◌, ◌≢◌, ◌++◌, inl, inr, ◌∙◌, sym, ap, subst, Bool, false, List, [], ℕ, Result, Ok, Err}
use Rattle.std.specs.List.{list_any}
use Rattle.gb_text.specs.declared.id.Id.{Id}
use Rattle.gb_text.specs.declared.id.Name.{Name}
use Rattle.gb_store.specs.Files.{Files, History, files_of, written}
use Rattle.ref_store.specs.Setting.{ref_write}
use Rattle.repo_state.specs.Listed.{AreRefs}
use Rattle.repo_state.specs.Sides.{head_at, ref_place}
use Rattle.repo_state.specs.declared.refs.EntityRef.{EntityRef}
use Rattle.repo_state.specs.declared.side.Side.{Side}
use Rattle.repo_state.specs.declared.side.Side.TheVariants as side
use Rattle.repo_state.specs.declared.stop.ReadStop.{ReadStop}
use Rattle.listed_refs.specs.AsListed.{AreAsListed}
use Rattle.listed_refs.specs.declared.listed.ListedSide.{ListedSide}
use Rattle.listed_refs.proofs.ListedLemmas.{as_listed}
use Rattle.sync_steps.specs.Turns.{AreBoth, Ended, ExchangeAnswers, Turn, Went, WentOn, are_held, is_damage, lines_of}
use Rattle.sync_steps.specs.declared.line.EntityWord.{EntityWord}
use Rattle.sync_steps.specs.declared.line.EntityWord.TheVariants as word
use Rattle.sync_steps.specs.declared.line.Exchange.{Exchange}
use Rattle.sync_steps.specs.declared.line.Line.{Line}
use Rattle.sync_steps.proofs.SetLemmas.{id_of}
use Rattle.repo_sync.specs.Listing.{IsListed, IsListing}
use Rattle.repo_sync.specs.declared.listing.Listing.{Listing}
use Rattle.repo_sync.proofs.TurnLemmas.{held_by_lines}
use Rattle.repo_sync.proofs.ListedLemmas.{others_as_listed}

-- what stands on a side is as it was listed
side_as_listed : (files : Files) (source target : List ℕ) (of to : Side) (refs : List EntityRef) (listed : ListedSide) → AreRefs files source of refs → IsListed files target to listed → AreAsListed files target listed refs
side_as_listed files source target of to refs listed are is =
    as_listed target listed files files source of refs are (subst (λ (on : Side). AreRefs files target on listed.refs) (sym is.side) is.refs)

module _ (verb : Exchange) (Step : Side → Bool → Turn → History → History → Type 0) (Stops : Side → Bool → ReadStop → EntityRef → History → History → Type 0) (source target : List ℕ) (to : EntityWord → Side)
    (listing : Listing) (old one : History) (listed : IsListing (files_of old) source target (to word.Identity) (to word.Bug) listing) (same : one ≡ old) where
  abbrev pub Answers : History → Result (List Line) ReadStop → Type 0
  Answers new result = ExchangeAnswers verb (λ (word : EntityWord). Step (to word)) (λ (word : EntityWord). Stops (to word)) source old new result

  both : AreBoth source old listing.people listing.bugs
  both = record { are_people = listed.people; are_bugs = listed.bugs }

  -- before the first turn
  pub people_as_listed : AreAsListed (files_of one) target listing.people_there listing.people
  people_as_listed =
      subst (λ (h : History). AreAsListed (files_of h) target listing.people_there listing.people) (sym same)
      (side_as_listed (files_of old) source target side.Identities (to word.Identity) listing.people listing.people_there listed.people listed.people_there)

  -- the call ended at an identity
  pub ended_at_person : (why : ReadStop) (new : History) → Ended (Step listing.people_there.side false) (Stops listing.people_there.side false) why listing.people one new → Answers new (Err why)
  unfolding both
  ended_at_person why new ended = inr (inl (record {
    people = listing.people;
    bugs = listing.bugs;
    are = both;
    ended = subst (λ (h : History). Ended (Step (to word.Identity) false) (Stops (to word.Identity) false) why listing.people h new) same
        (subst (λ (on : Side). Ended (Step on false) (Stops on false) why listing.people one new) listed.people_there.side ended);
  }))

  module _ (apart : to word.Identity ≢ to word.Bug)
      (leaves : (on : Side) (held : Bool) (turn : Turn) (of : Side) (id : Id) (old new : History) → ((name : Name) (files : Files) → head_at (written files (ref_write target (ref_place on (id_of turn)) name)) target of id ≡ head_at files target of id)
      → Step on held turn old new → head_at (files_of new) target of id ≡ head_at (files_of old) target of id)
      (start lines : List Line) (is_start : start ≡ []) (mid : History) (on : WentOn verb word.Identity (Step listing.people_there.side false) listing.people start lines one mid) where
    first : Went (Step (to word.Identity) false) listing.people on.turns old mid
    first = subst (λ (h : History). Went (Step (to word.Identity) false) listing.people on.turns h mid) same
        (subst (λ (of : Side). Went (Step of false) listing.people on.turns one mid) listed.people_there.side on.went)

    lines_are : lines ≡ lines_of verb word.Identity on.turns
    lines_are = on.lines ∙ ap (λ (ls : List Line). ls ++ lines_of verb word.Identity on.turns) is_start

    -- whether an identity is damaged is told by the lines
    pub held_as_told : (held : Bool) → held ≡ list_any (λ (line : Line). is_damage line.outcome) lines → held ≡ are_held on.turns
    unfolding lines_are
    held_as_told held told = told ∙ ap (list_any (λ (line : Line). is_damage line.outcome)) lines_are ∙ held_by_lines verb word.Identity on.turns

    -- behind the turns of the identities
    pub bugs_as_listed : AreAsListed (files_of mid) target listing.bugs_there listing.bugs
    bugs_as_listed =
        others_as_listed verb word.Identity target listing.people_there.side (Step listing.people_there.side false) (leaves listing.people_there.side false) listing.bugs_there listing.people listing.bugs start lines one mid
        (λ is. apart (sym listed.people_there.side ∙ is ∙ listed.bugs_there.side)) on
        (subst (λ (h : History). AreAsListed (files_of h) target listing.bugs_there listing.bugs) (sym same)
        (side_as_listed (files_of old) source target side.Bugs (to word.Bug) listing.bugs listing.bugs_there listed.bugs listed.bugs_there))

    module _ (held : Bool) (is_held : held ≡ are_held on.turns) (new : History) where
      -- the call ended at a bug
      pub ended_at_bug : (why : ReadStop) → Ended (Step listing.bugs_there.side held) (Stops listing.bugs_there.side held) why listing.bugs mid new → Answers new (Err why)
      unfolding both first
      ended_at_bug why ended = inr (inr (record {
        people = listing.people;
        bugs = listing.bugs;
        are = both;
        person_turns = on.turns;
        mid = mid;
        first = first;
        ended = subst (λ (h : Bool). Ended (Step (to word.Bug) h) (Stops (to word.Bug) h) why listing.bugs mid new) is_held
            (subst (λ (of : Side). Ended (Step of held) (Stops of held) why listing.bugs mid new) listed.bugs_there.side ended);
      }))

      -- the call is done
      pub is_done : (late : List Line) → WentOn verb word.Bug (Step listing.bugs_there.side held) listing.bugs lines late mid new → Answers new (Ok late)
      unfolding both first lines_are
      is_done late then = record {
        people = listing.people;
        bugs = listing.bugs;
        are = both;
        person_turns = on.turns;
        bug_turns = then.turns;
        mid = mid;
        first = first;
        then = subst (λ (h : Bool). Went (Step (to word.Bug) h) listing.bugs then.turns mid new) is_held (subst (λ (of : Side). Went (Step of held) listing.bugs then.turns mid new) listed.bugs_there.side then.went);
        are_lines = then.lines ∙ ap (λ (ls : List Line). ls ++ lines_of verb word.Bug then.turns) lines_are;
      }
