mod StepLemmas
mod FrontLemmas
mod CellLemmas
mod Examples
