mod DrawingLemmas
