-- The parts of a row as the values of its members.
use Rattle.op_kind.specs.Shapes.{Values}
use Rattle.row_text.specs.Rows.{bug_shape, numbers_shape, people_shape, texts_shape}
use Rattle.row_text.specs.declared.read.Bug.{Bug}
use Rattle.row_text.specs.declared.read.Numbers.{Numbers}
use Rattle.row_text.specs.declared.read.People.{People}
use Rattle.row_text.specs.declared.read.Texts.{Texts}

abbrev pub bug_values : Bug → Values bug_shape
bug_values bug = (tt, (bug.id, (bug.head, tt)))

abbrev pub people_values : People → Values people_shape
people_values people = (people.author, (people.actors, (people.participants, tt)))

abbrev pub numbers_values : Numbers → Values numbers_shape
numbers_values numbers = (numbers.create, (numbers.edit, (numbers.first, (numbers.last, (numbers.comments, tt)))))

abbrev pub texts_values : Texts → Values texts_shape
texts_values texts = (texts.title, (texts.status, (texts.labels, (texts.metadata, tt))))
