-- What a bug says when its entity is read back from the files after a command has written to it.
use Rattle.std.specs.Prelude.{◌≡◌, ◌++◌, ℕ, List, [], ◌∷◌}
use Rattle.gb_text.specs.declared.id.Id.{Id}
use Rattle.gb_text.specs.declared.ruled.Message.{Message}
use Rattle.gb_text.specs.declared.ruled.Title.{Title}
use Rattle.gb_store.specs.Files.{Files}
use Rattle.op_kind.specs.declared.place.Place.{Place}
use Rattle.bug_ops.specs.Kind.{bug_kind}
use Rattle.bug_ops.specs.declared.op.BugOp.{BugOp}
use Rattle.bug_ops.specs.declared.op.BugStatus.TheVariants.{Opened}
use Rattle.bug_ops.specs.declared.snapshot.Comment.{Comment}
use Rattle.bug_ops.specs.declared.snapshot.Snapshot.{Snapshot}
use Rattle.lamport.specs.Clock.{edit_time_of, root_time_of}
use Rattle.snapshot.specs.LastMention.{snapshot_of}
use Rattle.dag_entity.specs.Entities.{ops_in}
use Rattle.dag_entity.specs.declared.entity.Entity.{Entity}
use Rattle.repo_state.specs.Clocks.{clock_at}
use Rattle.repo_state.specs.declared.clocks.ClockFile.TheVariants as file
use Rattle.repo_steps.specs.declared.env.Env.{Env}
use Rattle.repo_steps.specs.BugDoings.{Growth, bug_says}
use Rattle.repo_steps.specs.Steps.{BugGrows}

-- the bug after the step of an edit, read anew, says what its operations of before say with the edit's behind them, which stands under the id that was told, is by the user and has the clock of an edit
pub record EndsWithTheEdit (env : Env) (growth : Growth) (old new : Files) (told : Id) (step : BugGrows env growth old new told) (now : Entity BugOp) : Type 0 where
  pub place : Place
  pub is_told : place.id ≡ told
  pub by_user : place.author ≡ step.user
  pub clock : place.edit ≡ edit_time_of (clock_at old env.folder file.BugsEdit) step.bug.entity.edit
  pub says : bug_says now ≡ snapshot_of (ops_in bug_kind step.bug.entity.packs ++ bug_kind.placed place step.op ∷ [])

-- a comment of an author, under the id of the operation that makes it
abbrev pub made_comment : Env → Id → Id → List ℕ → Comment
made_comment env author id message = record { id = id; author = author; time = env.moment.now; message = message }

-- what a new bug says: its title, that it is open, no label and no metadata, its message as the one comment, the user and nobody else, and the clocks of a new root
abbrev pub begun_says : Env → Files → Title → Message → Id → Id → Snapshot
begun_says env old title message user told = record {
  row = record {
    id = told;
    title = title.text;
    status = Opened;
    labels = [];
    author = user;
    actors = user ∷ [];
    participants = user ∷ [];
    create = root_time_of (clock_at old env.folder file.BugsCreate);
    edit = root_time_of (clock_at old env.folder file.BugsEdit);
    first = env.moment.now;
    last = env.moment.now;
    comments = 1;
    metadata = [];
  };
  list = made_comment env user told message.text ∷ [];
}
