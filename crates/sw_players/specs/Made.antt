-- What players were made with.

-- their kind: the door with its net, workers and task workers with what their handlers were made with
pub data Made (N H T : Type 0) : Type 0 where
  of_door : N → Made N H T
  of_reactor : Made N H T
  of_worker : H → Made N H T
  of_tasker : T → Made N H T
