-- While objects are only added, what a walk along a chain meets stays.
use Rattle.std.proofs.Common.{List, [], ◌∷◌}
use Rattle.gb_text.specs.declared.id.Name.{Name}
use Rattle.object_store.specs.Growth.{OnlyGrew}
use Rattle.object_store.specs.Held.{Objects}
use Rattle.object_store.specs.Typed.{as_commit}
use Rattle.object_store.proofs.GrowthLemmas.{stays}
use Rattle.commit_walk.specs.Chain.{Chain, IsLink, Meets, MeetsMerge, Walked}
use Rattle.commit_walk.specs.declared.chain.Link.{Link}

module _ (old new : Objects) (grew : OnlyGrew old new) where
  -- a commit that was held is held
  IsLink_stays : (link : Link) (parents : List Name) → IsLink old link parents → IsLink new link parents
  IsLink_stays link parents is = record { commit = is.commit; held = stays old new grew as_commit link.name is.commit is.held; tree = is.tree; parents = is.parents }

  -- steps by the single parent stay
  pub Chain_stays : (head : Name) (above : List Link) (name : Name) → Chain old head above name → Chain new head above name
  Chain_stays head [] name chain = chain
  Chain_stays head (link ∷ above) name chain = (Chain_stays head above link.name chain.0, IsLink_stays link (name ∷ []) chain.1)

  -- a whole walk stays
  pub Walked_stays : (head : Name) (walk : List Link) → Walked old head walk → Walked new head walk
  Walked_stays head [] walked = walked
  Walked_stays head (root ∷ above) walked = (Chain_stays head above root.name walked.0, IsLink_stays root [] walked.1)

  -- what is met stays met
  pub Meets_stays : (head name : Name) → Meets old head name → Meets new head name
  Meets_stays head name meets = record { above = meets.above; chain = Chain_stays head meets.above name meets.chain; near = meets.near }

  -- a merge that is met stays one
  pub MeetsMerge_stays : (head name : Name) → MeetsMerge old head name → MeetsMerge new head name
  MeetsMerge_stays head name merge = record {
    meets = Meets_stays head name merge.meets;
    commit = merge.commit;
    held = stays old new grew as_commit name merge.commit merge.held;
    many = merge.many;
  }
