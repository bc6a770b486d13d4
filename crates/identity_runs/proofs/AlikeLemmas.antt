-- What a commit leads to stands alike in two whole stores that both hold it, where each name is that of one text.
use Rattle.std.proofs.Common.{◌≡◌, false, [], ◌∷◌, Some, option_and_then, refl, sym, ◌∙◌, ap, subst}
use Rattle.gb_text.specs.declared.id.Id.{Id}
use Rattle.gb_text.specs.declared.id.Name.{Name}
use Rattle.git_object.specs.declared.frame.Kind.TheVariants as kinds
use Rattle.git_object.specs.Reading.{object_of}
use Rattle.object_store.specs.Held.{Objects, text_at}
use Rattle.object_store.proofs.GrowthLemmas.{bind-some}
use Rattle.object_batch.specs.Needs.{IsHeldAs, IsWhole, Reference}
use Rattle.commit_walk.proofs.DistinctLemmas.{Contains-nil}
use Rattle.bug_ops.specs.Kind.{bug_kind}
use Rattle.bug_ops.specs.declared.op.BugOp.{BugOp}
use Rattle.dag_entity.specs.Agreeing.{SameNeeded}
use Rattle.dag_entity.specs.Faults.{EntityFaultHolds, HasUnknownAuthor}
use Rattle.dag_entity.specs.Folders.{HaveOneText}
use Rattle.dag_entity.specs.Nodes.{IsNodeBelow}
use Rattle.dag_entity.specs.declared.entity.Loaded.{Loaded}
use Rattle.dag_entity.specs.declared.fault.EntityFault.TheVariants.{AuthorUnknown}
use Rattle.dag_entity.proofs.AgreeFaults.{fault_over}
use Rattle.dag_entity.proofs.AgreeLemmas.{agree_back}
use Rattle.entity_copy.proofs.ChainLemmas.{same_chain}
use Rattle.entity_copy.proofs.NeededLemmas.{same_needed}
use Rattle.identity.specs.Persons.{IsChain}
use Rattle.identity.proofs.AgreeLemmas.{chain_too}
use Rattle.remote_copy.specs.Closure.{IsFollowed, StandsAlike, first, next}
use Rattle.remote_copy.specs.Copies.{IsCopied}
use Rattle.full_exchanges.proofs.OneTextLemmas.{text_stands}

module _ (source target : Objects) (whole : IsWhole source) (also : IsWhole target) (alike : HaveOneText source target) where
  -- both hold an object of this kind
  record BothHold (one : Reference) : Type 0 where
    pub here : IsHeldAs source one.name one.kind
    pub there : IsHeldAs target one.name one.kind

  -- so it has one text
  same_text : (one : Reference) → BothHold one → text_at target one.name ≡ text_at source one.name
  same_text one both =
      let text = bind-some object_of (text_at source one.name) both.here.object both.here.is in
      let other = bind-some object_of (text_at target one.name) both.there.object both.there.is in
      other.1 ∙ ap Some (sym (alike one.name text.0 other.0 text.1 other.1)) ∙ sym text.1

  -- and stands alike
  held_alike : (one : Reference) → BothHold one → StandsAlike source target one
  held_alike one both =
      let text = bind-some object_of (text_at source one.name) both.here.object both.here.is in
      record {
        text = text.0;
        object = both.here.object;
        held = text.1;
        is = text.2;
        is_kind = both.here.is_kind;
        there = text_stands target one.name text.0 (same_text one both ∙ text.1);
      }

  module _ (top : Name) (here : IsHeldAs source top kinds.Commit) (there : IsHeldAs target top kinds.Commit) where
    -- they hold all that a copy of the commit follows
    both_hold : (one : Reference) → IsFollowed false source target top one → BothHold one
    both_hold one (first e unleft) = subst BothHold (sym e) (record { here = here; there = there })
    both_hold one (next {high = high} f names unleft) =
        let both = both_hold high f in
        record {
          here = whole.needs high.name names.object names.is one.name one.kind names.names;
          there = also.needs high.name names.object (ap (option_and_then object_of) (same_text high both) ∙ names.is) one.name one.kind names.names;
        }

    pub copied : IsCopied false source target target top
    copied one followed = held_alike one (both_hold one followed)

    -- a chain without a fault has none there
    pub chain_over : (id : Id) → IsChain source id top → IsChain target id top
    chain_over id chain = (chain_too source target top (same_chain source target target top copied) id chain).0

    -- the entity at the commit needs the same in both
    needed_back : SameNeeded target source (top ∷ [])
    needed_back = agree_back source target (top ∷ []) (same_needed source target target top copied)

    -- so each author there is one here
    pub author_back : (node : Loaded BugOp) → IsNodeBelow bug_kind target (top ∷ []) node
        → (mine : Loaded BugOp) × IsNodeBelow bug_kind source (top ∷ []) mine × (mine.placed.pack.author ≡ node.placed.pack.author)
    unfolding EntityFaultHolds
    author_back node below =
        let author = node.placed.pack.author in
        let unknown : HasUnknownAuthor bug_kind target (top ∷ []) [] author = record { node = node; is = below; wrote = refl; unknown = Contains-nil author } in
        let mine : HasUnknownAuthor bug_kind source (top ∷ []) [] author = fault_over target source (top ∷ []) needed_back bug_kind author [] (AuthorUnknown author) unknown in
        (mine.node, mine.is, mine.wrote)
