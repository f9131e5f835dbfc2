mod FlushLemmas
